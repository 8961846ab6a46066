use Rattle.std.proofs.Common.{◌↔◌, ℕ}
use Rattle.std.specs.Prelude.{IsTrue, IsSome}
use Rattle.tup_schedule.proofs.Views.{to_now}
use Rattle.tup_schedule.proofs.course.Course.has_bad.Goals as goal

pub returns : goal.returns
returns c = to_now _ _ _ _ _ _ c.self.invariant c.self.view_is (λ s. IsTrue c.has_bad.result ↔ ((number : ℕ) × IsSome (s.bad number))) c.has_bad.ensures
