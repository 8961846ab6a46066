-- What a sort and then `dedup` leave of a list of paths.
use Rattle.std.proofs.Common.{◌≡◌, List, [], ◌∷◌, sym, subst}
use Rattle.std.proofs.lemmas.Cmp.{lists_equiv, nat_list_eq_equiv}
use Rattle.std.proofs.lemmas.List.Kept.{Contains-dedup, Contains-from_dedup, IsStrictlySortedBy-dedup}
use Rattle.std.proofs.lemmas.List.Sorted.{Contains-permutation, IsPermutation-sym}
use Rattle.std.proofs.lemmas.Map.Keys.{sorted_tail}
use Rattle.std.proofs.lemmas.Map.Views.{All-after_first}
use Rattle.std.specs.Cmp.{IsEquivalence}
use Rattle.std.specs.List.{Contains, dedup}
use Rattle.std.specs.List.Sorted.{IsPermutation, IsSorted, IsStrictlySortedBy}
use Rattle.tup_path.specs.Name.{Names}
use Rattle.tup_path.specs.Order.{by_names, by_names-total, same_path, same_path-by_names}
use Rattle.tup_path.proofs.Same.{same_path-decides}
use Rattle.tup_ledger.specs.Ascending.{IsAscending, ascending}
use Rattle.tup_ledger.specs.Members.{ascending-IsAscending, ascending_has, ascending_has_only, same_members}

ascends : (paths : List Names) → IsStrictlySortedBy by_names paths → IsAscending paths
ascends [] up = tt
ascends (path ∷ paths) up = (All-after_first by_names path paths up, ascends paths (sorted_tail by_names path paths up))

same_path-equivalence : IsEquivalence same_path
same_path-equivalence = lists_equiv nat_list_eq_equiv

pub ordered : (paths sorted once : List Names) → IsPermutation paths sorted → IsSorted by_names sorted → once ≡ dedup same_path sorted → once ≡ ascending paths
ordered paths sorted once moved up is =
    let strictly : IsStrictlySortedBy by_names once = rw is (IsStrictlySortedBy-dedup by_names-total same_path-by_names sorted up) in
    same_members once (ascending paths) (ascends once strictly) (ascending-IsAscending paths)
    (λ other has. ascending_has paths other (Contains-permutation sorted paths other (IsPermutation-sym paths sorted moved) (Contains-from_dedup same_path sorted other (subst (λ l. Contains l other) is has))))
    (λ other has. subst (λ l. Contains l other) (sym is)
    (Contains-dedup same_path-equivalence (λ x y e. (same_path-decides x y).0 e) sorted other (Contains-permutation paths sorted other moved (ascending_has_only paths other has))))
