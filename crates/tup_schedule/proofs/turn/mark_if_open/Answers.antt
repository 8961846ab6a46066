use Rattle.std.proofs.Common.{◌==◌, sym, ◌∙◌}
use Rattle.tup_core.specs.Reading.{open_test}
use Rattle.tup_schedule.specs.Marks.{is_marked}
use Rattle.tup_schedule.proofs.TurnLaws.{opens_one, opens_none}
use Rattle.tup_schedule.proofs.turn.mark_if_open.Goals as goal

pub returns-then-is_open-clause-set : goal.returns-then-is_open-clause-set
returns-then-is_open-clause-set c = λ other.
    c.set.ensures.set other ∙ opens_one (is_marked c.args.marks.now other) (other == c.args.at) (open_test c.args.core.now c.args.at) (sym c.is_open.ensures ∙ c.if-is_open.true)

pub returns-else-is_open-clause-set : goal.returns-else-is_open-clause-set
returns-else-is_open-clause-set c = λ other. opens_none (is_marked c.args.marks.now other) (other == c.args.at) (open_test c.args.core.now c.args.at) (sym c.is_open.ensures ∙ c.if-is_open.false)
