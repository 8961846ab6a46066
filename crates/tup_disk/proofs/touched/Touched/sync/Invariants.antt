use Rattle.std.proofs.Common.{string_bytes, String, Global}
use Rattle.std.specs.List.{Any}
use Rattle.tup_disk.specs.Told.{IsUnsynced, IsUnsyncedAmong}
use Rattle.tup_disk.specs.declared.failure.Refused.{Refused}
use Rattle.tup_disk.proofs.touched.Touched.sync.Given as goal

abbrev pub invariant-loop-place : goal.invariant-loop-place
invariant-loop-place g l = (refused : Refused) → Any (λ (place : String Global). IsUnsynced (string_bytes place) refused) l.place-iterator → IsUnsyncedAmong l.self.places refused
