use Rattle.std.proofs.Common.{◌≡◌, ◌<◌, None, sym, ap, ◌∙◌, arith}
use Rattle.std.specs.Option.{option_copied}
use Rattle.std.proofs.lemmas.Option.{same_Some}
use Rattle.tup_core_rows.proofs.Seats.{goes_here, none_here}
use Rattle.tup_core_rows.proofs.desk.Desk.going.Goals as goal

pub returns : goal.returns
returns c = λ number same.
    let within : c.args.seat < 16 = omega arith in
    let granted : c.in_ok-running.running.now.denied ≡ None = none_here c.in_ok-running.running.now.denied (sym c.is_some.ensures ∙ c.if-is_some.false) in
    goes_here c.args.self.now.course c.args.seat c.in_ok-running.running.now number within (c.running_rule.ensures c.in_ok-running.running.now (ap option_copied c.in_ok-running.was)) granted
    (same_Some c.in_ok-running.running.now.rule number same)
