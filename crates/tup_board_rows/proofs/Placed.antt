-- Where the tests are passed, a file may be put at a path.
use Rattle.std.proofs.Common.{◌≡◌, ◌≢◌, ℕ, ◌<◌, List, [], length, ap, subst, arith}
use Rattle.std.specs.Prelude.{All, IsSome}
use Rattle.std.specs.FinMap as finite
use Rattle.tup_path.specs.Name.{Names}
use Rattle.tup_path.specs.Tree.{Tree}
use Rattle.tup_site.specs.Cause.{IsPlace}
use Rattle.tup_site.proofs.Trees.{some-from_all_keys}
use Rattle.tup_board_rows.specs.Apart.{IsBeside, MayStand}

no_top : (path : Names) → 0 < length path → path ≢ []
no_top path some top = none (length path) some (ap length top)
  where
    none : (n : ℕ) → 0 < n → n ≡ 0 → ⊥
    none n some is = omega (arith, some, is)

-- a path that may stand beside the keys of a tree is a place of it
pub place_is : (tree : Tree) (paths : List Names) (path : Names) → paths ≡ finite.keys tree → MayStand paths path → IsPlace tree path
place_is tree paths path keys may = record {
  not_top = no_top path may.not_top;
  none_above = λ file here. (beside file here).not_above;
  none_below = λ file here. (beside file here).not_below;
}
  where
    beside : (file : Names) → IsSome (finite.get tree file) → IsBeside path file
    beside = some-from_all_keys (IsBeside path) tree (subst (All (IsBeside path)) keys may.beside)
