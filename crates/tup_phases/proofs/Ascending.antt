-- The paths that no rule makes any more are in the order of paths.
use Rattle.std.proofs.Common.{◌≡◌, ◌⊎◌, inl, inr, ℕ, zero, suc, List, [], ◌∷◌, take, Some, Contains, sym, subst}
use Rattle.std.specs.FinMap as finite
use Rattle.std.specs.List.{slice_get}
use Rattle.std.proofs.lemmas.List.Elements.{All-contains}
use Rattle.std.proofs.lemmas.Option.{none-some, same_Some}
use Rattle.tup_path.specs.Name.{Names}
use Rattle.tup_graph.specs.declared.owned.Owned.{Owned}
use Rattle.tup_graph.specs.Graph.{GraphState}
use Rattle.tup_ledger.specs.Ascending.{IsAscending}
use Rattle.tup_ledger.specs.Members.{Before, first_member, later_member, member_cases, not_before_itself, not_both_before}
use Rattle.tup_ledger.proofs.Keys.{owned_ascends, passing_ascend}
use Rattle.tup_stale.specs.Unmade.{lacks_maker, unmade}

pub unmade_ascends : (g : GraphState) → IsAscending (unmade g)
unmade_ascends g = passing_ascend (λ (entry : Names × Owned). entry.0) lacks_maker (finite.entries g.owned) (owned_ascends g)

-- a member of an ascending list that comes before another one stands in front of it
pub stands_in_front : (paths : List Names) → IsAscending paths → (at : ℕ) (path earlier : Names) → slice_get paths at ≡ Some path → Before earlier path → Contains paths earlier → Contains (take at paths) earlier
stands_in_front [] up at path earlier here before has = absurd (none-some path here)
stands_in_front (first ∷ rest) up zero path earlier here before has = absurd (by (member_cases first rest earlier has))
  where
    below : Before earlier first
    below = subst (Before earlier) (sym (same_Some first path here)) before

    by : (first ≡ earlier) ⊎ Contains rest earlier → ⊥
    by (inl same) = not_before_itself first (subst (λ (p : Names). Before p first) (sym same) below)
    by (inr more) = not_both_before first earlier (All-contains (Before first) rest earlier up.0 more) below
stands_in_front (first ∷ rest) up (suc at) path earlier here before has = by (member_cases first rest earlier has) (stands_in_front rest up.1 at path earlier here before)
  where
    by : (first ≡ earlier) ⊎ Contains rest earlier → (Contains rest earlier → Contains (take at rest) earlier) → Contains (first ∷ take at rest) earlier
    by (inl same) front = subst (Contains (first ∷ take at rest)) same (first_member first (take at rest))
    by (inr more) front = later_member first (take at rest) earlier (front more)
