use Rattle.std.proofs.Common.{sym, ap, ◌∙◌}
use Rattle.std.specs.Option.{option_copied}
use Rattle.tup_schedule.proofs.Kept.{access_told}
use Rattle.tup_board.proofs.access.access_by.Goals as goal

pub returns-in-Some : goal.returns-in-Some
returns-in-Some c =
    access_told c.args.course.now c.args.plan.now c.args.seat c.in-Some.running.now c.args.text.now c.access_running.result c.requires.plan (sym c.running.ensures ∙ ap option_copied c.in-Some.is) c.access_running.ensures
