use Rattle.std.proofs.Common.{ap}
use Rattle.tup_rule_line.specs.declared.found.Found.{Found}
use Rattle.tup_rule_line.specs.Found.{with_one}
use Rattle.tup_rule_line.proofs.Sets.{files_more, new_input}
use Rattle.tup_rule_line.proofs.gathered.Gathered.with_input.Goals as goal

pub returns : goal.returns
returns c =
    let kept = c.self.inside in
    rw (c.in_ok-add_new.ensures, c.in_ok-new.ensures.added, c.in_ok-clone.ensures.cases, new_input kept.set.keys kept.found.inputs c.args.input c.self.invariant)
    (ap (λ (found : Found). with_one found c.args.input) c.self.view_is)

pub invariant_of-result : goal.invariant_of-result
invariant_of-result c =
    let kept = c.self.inside in
    rw (c.in_ok-add_new.ensures, c.in_ok-new.ensures.added, c.in_ok-new.ensures.keys, c.in_ok-clone.ensures.cases, new_input kept.set.keys kept.found.inputs c.args.input c.self.invariant)
    (files_more kept.set.keys kept.found.inputs c.args.input c.self.invariant)
