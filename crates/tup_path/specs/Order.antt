-- Paths in the order in which everything is listed: name by name, each name by its bytes, a prefix first.
use Rattle.std.specs.Prelude.{◌≡◌, ℕ, Bool, List, Some, nat_eq}
use Rattle.std.specs.declared.cmp.Ordering.{Ordering}
use Rattle.std.specs.Ordering.{nat_cmp, eq_by_cmp}
use Rattle.std.specs.Cmp.{IsTotalOrder, IsPartialOrder, po}
use Rattle.std.specs.Cmp.Lexicographic.{pointwise, slice_cmp, lists_ties, lists_total, nat_list_cmp_total, texts_ties}
use Rattle.std.specs.FinMap.{IsAntisymmetric, slice_cmp-IsAntisymmetric, nat_cmp-IsAntisymmetric}
use Rattle.tup_path.specs.Name.{Names}

-- which of two texts comes first
abbrev pub by_bytes : List ℕ → List ℕ → Ordering
by_bytes = slice_cmp nat_cmp

-- which of two paths comes first
abbrev pub by_names : Names → Names → Ordering
by_names = slice_cmp by_bytes

-- whether two paths are the same
abbrev pub same_path : Names → Names → Bool
same_path = pointwise (pointwise nat_eq)

-- two paths are the same just where neither comes first
pub same_path-by_names : (x y : Names) → same_path x y ≡ eq_by_cmp by_names x y
same_path-by_names = lists_ties by_bytes texts_ties

-- the laws that `Ord` and `PartialOrd` of a path rest on: the order is total, and ties are equal
pub by_names-total : IsTotalOrder by_names
by_names-total = lists_total nat_list_cmp_total

pub by_names-partial : IsPartialOrder same_path (λ x y. Some (by_names x y))
by_names-partial = po by_names-total same_path-by_names

-- paths that tie are equal
pub by_names-antisymmetric : IsAntisymmetric by_names
by_names-antisymmetric = slice_cmp-IsAntisymmetric (slice_cmp-IsAntisymmetric nat_cmp-IsAntisymmetric)
