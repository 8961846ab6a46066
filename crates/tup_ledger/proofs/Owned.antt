-- What a table that took owned paths stands for.
use Rattle.std.proofs.Common.{◌≡◌, ℕ, true, List, [], ◌∷◌, map, fold, Option, None, Some, All, refl, subst}
use Rattle.std.specs.FinMap as finite
use Rattle.std.specs.List.{AllByRecursion}
use Rattle.std.proofs.lemmas.List.Elements.{recursion_from_All, All-from_recursion}
use Rattle.tup_path.specs.Name.{Names}
use Rattle.tup_record.specs.declared.owned.OwnedState.TheVariants.{Unsure}
use Rattle.tup_record.specs.declared.record.Record.TheVariants as records
use Rattle.tup_table.specs.Entries.{Standing, IsAscending}
use Rattle.tup_graph.specs.declared.owned.Owned.{Owned}
use Rattle.tup_graph.specs.Changes.{once_made}
use Rattle.tup_graph.specs.Edits.{edited, edited_by, change_of, IsTaken, HasSpelling}
use Rattle.tup_graph.specs.Graph.{GraphState, is_rule}
use Rattle.tup_graph.specs.Opening.{fits, IsGraphOf}
use Rattle.tup_graph.proofs.Committing.{in_range}
use Rattle.tup_graph.proofs.Leading.{edits_read}
use Rattle.tup_graph.proofs.Needed.{needed_read}
use Rattle.tup_ledger.specs.Owned.{maker_in, owning, own_edits, with_own, with_owned}

-- the paths of entries
abbrev pub paths_of : List (Names × Owned) → List Names
paths_of entries = map (λ (entry : Names × Owned). entry.0) entries

pub own_leaves : (g : GraphState) (paths : List Names) → edited_by g (own_edits g paths) ≡ with_owned g paths
own_leaves g paths = more g paths
  where
    more : (h : GraphState) (paths : List Names) → edited_by h (map (owning g) paths) ≡ record h { owned = fold (with_own g) h.owned paths }
    more h [] = refl
    more h (path ∷ paths) = more (edited h (owning g path)) paths

module _ (g : GraphState) (range : (path : Names) (o : Owned) (n : ℕ) → finite.get g.owned path ≡ Some o → o.maker ≡ Some n → is_rule g n ≡ true) where
  maker_fits : (path : Names) (maker : Option ℕ) → ((n : ℕ) → maker ≡ Some n → is_rule g n ≡ true) → fits g (records.Owned path maker Unsure) ≡ true
  maker_fits path None named = refl
  maker_fits path (Some n) named = named n refl

  owning_fits : (path : Names) → fits g (records.Owned path (maker_in g path) Unsure) ≡ true
  owning_fits path = by (finite.get g.owned path) refl
    where
      by : (found : Option Owned) → finite.get g.owned path ≡ found → fits g (records.Owned path (elim found [ Some owned ↦ owned.maker | None ↦ None ]) Unsure) ≡ true
      by (Some o) is = maker_fits path o.maker (λ n named. range path o n is named)
      by None is = refl

  taken : (paths : List Names) → AllByRecursion HasSpelling (map (owning g) paths) → AllByRecursion (IsTaken g) (map (owning g) paths)
  taken [] spelled = tt
  taken (path ∷ paths) spelled = ((tt, spelled.0, owning_fits path), taken paths spelled.1)

pub own_commits : (entries : Standing) (g : GraphState) (origin : ℕ) → IsAscending entries → IsGraphOf entries g → (paths : List Names) → All HasSpelling (own_edits g paths)
    → IsGraphOf (once_made origin entries (own_edits g paths)) (with_owned g paths)
own_commits entries g origin up is paths spelled =
    let edits = own_edits g paths in
    subst (IsGraphOf (once_made origin entries edits)) (own_leaves g paths)
    (needed_read entries (map change_of edits) origin (edited_by g edits) up
    (edits_read entries g edits origin up is (All-from_recursion (IsTaken g) edits (taken g (in_range entries g is) paths (recursion_from_All HasSpelling edits spelled)))))
