-- The stamps of files that are digested in several threads.
use Rattle.std.proofs.Common.{◌≡◌, ◌∷◌, [], ◌<◌, ℕ, suc, List, refl, length, slice_index_or, arith}
use Rattle.std.specs.Prelude.{map}
use Rattle.tup_scan_crew.specs.Batch.{digested, with_stamp}
use Rattle.tup_scan_crew.specs.declared.batch.File.{File}

-- where each file holds its stamp, all do
pub all_digested : (old new : List File) → length new ≡ length old
    → ((i : ℕ) (d : File) → i < length old → with_stamp (slice_index_or new i d) ≡ digested (slice_index_or old i d))
    → map with_stamp new ≡ map digested old
all_digested [] [] long each = refl
all_digested [] (y ∷ ys) long each = absurd (omega (arith, long))
all_digested (x ∷ xs) [] long each = absurd (omega (arith, long))
all_digested (x ∷ xs) (y ∷ ys) long each =
    λ i. each 0 x (omega arith) i ∷ all_digested xs ys (omega (arith, long)) (λ k d less. each (suc k) d (omega (arith, less))) i
