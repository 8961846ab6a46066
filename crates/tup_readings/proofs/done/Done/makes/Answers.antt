use Rattle.std.proofs.Common.{ap, ◌∙◌}
use Rattle.tup_rule_line.specs.Making.{is_made}
use Rattle.tup_readings.specs.Answers.{Readings, drafts_of}
use Rattle.tup_readings.proofs.Making.{makes_there, makes_nowhere}
use Rattle.tup_readings.proofs.done.Done.makes.Goals as goal

pub returns-in-Some : goal.returns-in-Some
returns-in-Some c =
    let kept = c.self.inside in
    makes_there kept.readings kept.outputs c.args.dir.now c.args.path.now c.in-Some.outputs.now c.contains.result c.self.invariant c.in-Some.ensures c.contains.ensures
    ∙ ap (λ (r : Readings). is_made (drafts_of r c.args.dir.now) c.args.path.now) c.self.view_is

pub returns-in-None : goal.returns-in-None
returns-in-None c =
    let kept = c.self.inside in
    makes_nowhere kept.readings kept.outputs c.args.dir.now c.args.path.now c.self.invariant c.in-None.ensures
    ∙ ap (λ (r : Readings). is_made (drafts_of r c.args.dir.now) c.args.path.now) c.self.view_is
