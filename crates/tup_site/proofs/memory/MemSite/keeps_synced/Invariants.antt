use Rattle.std.proofs.Common.{◌≡◌, ℕ, ◌<◌, false, get_or}
use Rattle.tup_site.specs.State.{is_written}
use Rattle.tup_site.specs.Memory.{state_of, store_in}
use Rattle.tup_site.proofs.memory.MemSite.keeps_synced.Given as goal

abbrev pub invariant-loop-place : goal.invariant-loop-place
invariant-loop-place l = (place d : ℕ) → place < l.place → is_written (state_of l.self).written place ≡ false → get_or l.left place d ≡ get_or (store_in l.self) place d
