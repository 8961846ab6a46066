use Rattle.std.proofs.Common.{List, Ok, sym, subst}
use Rattle.std.specs.FinMap as finite
use Rattle.tup_path.specs.Name.{Names}
use Rattle.tup_rule.specs.declared.question.Reading.{Reading}
use Rattle.tup_readings.specs.Readings.{IsOutcome}
use Rattle.tup_project.proofs.Told.{all_told, all_stand}
use Rattle.tup_project.proofs.project.read_all.Goals as goal

pub returns-clause-come_to : goal.returns-clause-come_to
returns-clause-come_to c =
    let sources = finite.from_sorted c.args.sources.now in
    let read = subst (λ (r : List (Names × Reading)). IsOutcome sources (Ok r)) (sym c.as_slice.ensures) c.in_ok-readings.ensures in
    all_told sources c.as_slice.result.now c.link_all.result read c.link_all.ensures.linked c.link_all.ensures.fault

pub returns-clause-buildable : goal.returns-clause-buildable
returns-clause-buildable c =
    let sources = finite.from_sorted c.args.sources.now in
    let read = subst (λ (r : List (Names × Reading)). IsOutcome sources (Ok r)) (sym c.as_slice.ensures) c.in_ok-readings.ensures in
    all_stand sources c.as_slice.result.now c.link_all.result read c.link_all.ensures.buildable
