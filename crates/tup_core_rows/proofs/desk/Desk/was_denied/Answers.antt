use Rattle.std.proofs.Common.{◌<◌, sym, ap, ◌∙◌, arith}
use Rattle.std.specs.Option.{option_copied}
use Rattle.tup_core_rows.proofs.Seats.{was_denied_here}
use Rattle.tup_core_rows.proofs.desk.Desk.was_denied.Goals as goal

pub returns-then-seat-lt-SEATS : goal.returns-then-seat-lt-SEATS
returns-then-seat-lt-SEATS c = λ up.
    let within : c.args.seat < 16 = omega arith in
    was_denied_here c.args.self.now.course c.args.seat c.in-Some.running.now within (c.running_rule.ensures c.in-Some.running.now (ap option_copied c.in-Some.is)) (sym c.is_some.ensures ∙ up)
