use Rattle.std.proofs.Common.{◌*◌, ◌^◌, ℕ, suc, ap, sym, ◌∙◌, arith}
use Rattle.std.proofs.Math.Nat.{mul_comm, pow-succ'}
use Rattle.tup_schedule.proofs.marks.places_for.Goals as goal

pub double-preserved : goal.double-preserved
double-preserved c =
    let power = c.double.invariant.0 in
    let some = c.double.invariant.2 in (
      (suc power.0, ap (λ (n : ℕ). n * 2) power.1 ∙ mul_comm (2 ^ power.0) 2 ∙ sym (pow-succ' 2 power.0)),
      omega (arith, c.double-test.true, c.requires),
      omega (arith, some),
    )
