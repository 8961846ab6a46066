-- What two worlds hold that list the same.
use Rattle.std.proofs.Common.{◌≡◌, ◌⊎◌, ℕ, List, [], inl, inr, refl, sym, subst, ◌∙◌}
use Rattle.tup_path.specs.Name.{Names}
use Rattle.tup_site.specs.World.{World}
use Rattle.tup_table.specs.Entries.{Standing}
use Rattle.tup_table.proofs.Stores.{not_empty}
use Rattle.tup_graph.specs.Opening.{IsGraphOf}
use Rattle.tup_table.specs.Images.{Leaves, OpenStep}
use Rattle.tup_ledger.specs.Listing.{StillLists}
use Rattle.tup_ledger.proofs.Listing.{nothing_lists, opened_still}
use Rattle.tup_compare.specs.Holding.{HasSameEntries, Holding, HoldsOn, Lists, Shows}
use Rattle.tup_promise.specs.Unopened.{IsDamaged}
use Rattle.tup_promise.proofs.Stored.{undamaged as graph_undamaged}

-- ---- worlds that hold the same
pub holds_itself : (w : World) → HoldsOn w w
holds_itself w = record { tree = refl; store = inl refl }

pub holds_same : (v w : World) → w ≡ v → HoldsOn v w
holds_same v w same = subst (HoldsOn v) (sym same) (holds_itself v)

-- where nothing stands, no store does
not_store : (entries : Standing) → Leaves entries [] → ⊥
not_store entries (commits, store, is) = not_empty commits store

-- as where a store was opened
pub opened_holds : (v w : World) → OpenStep v w → HoldsOn v w
opened_holds v w step = record { tree = step.tree; store = inr (step.entries, step.before, step.after, step.end) }

pub kept_holds : (v w : World) → (w ≡ v) ⊎ OpenStep v w → HoldsOn v w
kept_holds v w (inl same) = holds_same v w same
kept_holds v w (inr step) = opened_holds v w step

-- ---- what one of them lists the other does, and what is promised of one of them is promised of the other
module _ (old mid : World) (on : HoldsOn old mid) where
  pub still_none : old.store ≡ [] → mid.store ≡ []
  still_none none = by on.store
    where
      by : (mid.store ≡ old.store) ⊎ HasSameEntries old.store mid.store → mid.store ≡ []
      by (inl same) = same ∙ none
      by (inr (entries, was, is, end)) = absurd (not_store entries (subst (Leaves entries) none was))

  still : StillLists old.store mid.store
  still = by on.store
    where
      by : (mid.store ≡ old.store) ⊎ HasSameEntries old.store mid.store → StillLists old.store mid.store
      by (inl same) = subst (λ (bytes : List ℕ). StillLists old.store bytes) (sym same) (λ paths. ((λ lists. lists), λ lists. lists))
      by (inr (entries, was, is, end)) = opened_still old mid (record { tree = on.tree; entries = entries; before = was; after = is; end = end })

  pub lists_on : (paths : List Names) → Lists old.store paths → Lists mid.store paths
  lists_on paths lists = (still paths).0 lists

  pub lists_back : (paths : List Names) → Lists mid.store paths → Lists old.store paths
  lists_back paths lists = (still paths).1 lists

  pub shown_before : (held : Holding) → Shows mid held → Shows old held
  shown_before held shows = record { lists = lists_back held.owned shows.lists; tree = shows.tree ∙ on.tree }

-- ---- a store that lists something is there, and isn't damaged
pub there : (bytes : List ℕ) (paths : List Names) → Lists bytes paths → bytes ≡ [] → ⊥
there bytes paths lists none = nothing_lists paths (subst (λ (b : List ℕ). Lists b paths) none lists)

pub undamaged : (bytes : List ℕ) (paths : List Names) (offset : ℕ) → Lists bytes paths → IsDamaged bytes offset → ⊥
undamaged bytes paths offset lists =
    graph_undamaged bytes lists.graph offset (record { commits = leaves.0; reads = leaves.1; graph = subst (λ (es : Standing). IsGraphOf es lists.graph) leaves.2 lists.store.stands })
  where
    leaves : Leaves lists.store.entries bytes
    leaves = lists.store.leaves
