use Rattle.std.proofs.Common.{sym, ◌∙◌}
use Rattle.tup_readings.proofs.Indexed.{parted_some, parted_none}
use Rattle.tup_readings.proofs.parted.parted.Goals as goal

pub returns-in-Ok-Some : goal.returns-in-Ok-Some
returns-in-Ok-Some c =
    parted_some c.args.path.now c.in-Some.field-0-1.now c.in-Ok-Some.dir c.in-Some.name.now c.in_ok-name.name
    (sym c.names.ensures.names ∙ c.in-Some.ensures.cases.0) c.in_ok-name.ensures.cases (rw c.in-Ok-Some.field-0-is at c.in-Ok-Some.ensures)

pub returns-in-Ok-None : goal.returns-in-Ok-None
returns-in-Ok-None c =
    parted_none c.args.path.now c.in-Some.field-0-1.now c.in-Some.name.now
    (sym c.names.ensures.names ∙ c.in-Some.ensures.cases.0) (rw c.in-Ok-None.field-0-is at c.in-Ok-None.ensures)
