-- What a sink holds after a write, and why a write is refused (own).
use Rattle.std.specs.Prelude.{◌≡◌, ◌≢◌, ℕ, ◌≤◌, List, ◌++◌, Result, Err}
use Rattle.tup_path.specs.Count.{Rose}
use Rattle.tup_tell.specs.declared.sink.SinkFailed.{SinkFailed}
use Rattle.tup_tell.specs.declared.sink.SinkFailed.TheVariants.{Fault}

-- new is old and a front of these bytes behind it
abbrev pub GrownByPart : List ℕ → List ℕ → List ℕ → Type 0
GrownByPart bytes old new = (front rest : List ℕ) × (front ++ rest ≡ bytes) × (new ≡ old ++ front)

-- The count rises with each fault, and at no other answer: so whoever drops a fault is found out.
pub record CountsFaults {T : Type 0} (before now : ℕ) (result : Result T SinkFailed) : Type 0 where
  pub later : before ≤ now
  pub fault : result ≡ Err Fault → Rose before now
  pub steady : result ≢ Err Fault → now ≡ before
