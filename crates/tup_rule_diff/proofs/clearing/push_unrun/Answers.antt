use Rattle.std.proofs.Common.{◌∙◌, ◌++◌, List, ap}
use Rattle.std.specs.FinMap as finite
use Rattle.std.specs.Map.Iter.{deref_pair}
use Rattle.std.proofs.lemmas.Map.Iter.{iter_end}
use Rattle.tup_rule_diff.specs.Edits.{unrun_edits}
use Rattle.tup_rule_diff.specs.Running.{keeps_run}
use Rattle.tup_rule_diff.proofs.Placing.{unrun_more}
use Rattle.tup_rule_diff.proofs.clearing.push_unrun.Goals as goal

pub loop-number-preserved : goal.loop-number-preserved
loop-number-preserved c =
    unrun_more (keeps_run c.args.nodes.now c.args.befores.now) deref_pair c.args.edits.now c.loop-number.edits c.push_unless_kept.new.edits c.loop-number.yielded (c.in-Some.number, c.in-Some.field-0-1) c.loop-number.invariant c.in_ok-push_unless_kept.ensures.ok

pub returns-clause-ok : goal.returns-clause-ok
returns-clause-ok c =
    let all = iter_end deref_pair (finite.entries c.args.nodes.now.runs) c.loop-number.yielded c.into_iter-number-iterator.result c.loop-number.number-iterator c.next.new.self c.next.result
    (c.into_iter-number-iterator.ensures.into_iter_gives ∙ c.runs-number-items.ensures) c.loop-number.yielded_by c.in-None.is c.next.ensures.steps in
    c.loop-number.invariant ∙ ap (λ (l : List _). c.args.edits.now ++ unrun_edits (keeps_run c.args.nodes.now c.args.befores.now) l) all.0
