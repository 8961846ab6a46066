-- A call that leaves a graph which may follow, beside the tree that was, keeps a kept site.
use Rattle.std.proofs.Common.{◌≡◌, ◌⊎◌, inl, inr, ⊎_elim, ℕ, ◌≤◌, Bool, true, false, List, Option, None, Some, refl, sym, ap, subst, ◌∙◌}
use Rattle.std.specs.FinMap as finite
use Rattle.std.specs.Option.{option_map}
use Rattle.tup_path.specs.Name.{Names, Content}
use Rattle.tup_path.specs.Tree.{Tree}
use Rattle.tup_site.specs.Crash.{GoesOn}
use Rattle.tup_site.specs.World.{World, TreeStays}
use Rattle.tup_site.specs.declared.site.Site.{Ghosts as Site}
use Rattle.tup_stamp.specs.Stamp.{stamp}
use Rattle.tup_record.specs.declared.owned.OwnedState.TheVariants.{Unsure}
use Rattle.tup_runner.specs.Next.{Next}
use Rattle.tup_graph.specs.declared.owned.Owned.{Owned}
use Rattle.tup_graph.specs.Graph.{GraphState, is_owned}
use Rattle.tup_graph.specs.Kept.{HoldsItsOwn, IsGraphIn, IsKept, IsKeptSite, IsKeptWorld, file_beside}
use Rattle.tup_graph.specs.Records.{Language}
use Rattle.tup_stored_graph.specs.Crash.{IsStoreOf}
use Rattle.tup_stored_graph.specs.Held.{Held}
use Rattle.tup_stored_graph.proofs.Crashes.{as_it_was}
use Rattle.tup_law_site.specs.Over.{LeftNow, StandsOver, HasNoFile, MayFollow}
use Rattle.tup_law_site.proofs.Stores.{in_bytes, one_in_bytes}

-- where nothing stands, nothing is a source
nothing : (owned : Bool) (there : Option Content) → there ≡ None → ◌≡◌ {A = Option Content} (elim owned [ true ↦ None | false ↦ there ]) None
nothing true there none = refl
nothing false there none = none

-- what holds its own does so in each world that has the same file there, beside one that had the same
pub holds_alike : (first other v w : World) (path : Names) (was owned : Owned) → finite.get other.tree path ≡ finite.get first.tree path → finite.get w.tree path ≡ finite.get v.tree path → owned.state ≡ was.state
    → HoldsItsOwn first v path was → HoldsItsOwn other w path owned
holds_alike first other v w path was owned firsts files states (inl unsure) = inl (states ∙ unsure)
holds_alike first other v w path was owned firsts files states (inr (inl same)) = inr (inl (files ∙ same ∙ sym firsts))
holds_alike first other v w path was owned firsts files states (inr (inr (seen, written, holds))) = inr (inr (seen, states ∙ written, ap (option_map stamp) files ∙ holds))

module _ {S : Type 0} (site : Site S) (next : Next) (language : Language) (known : List Content) (first : World) (since : ℕ) (graph : Held) (old : S)
    (over : StandsOver site next language known first since graph old)
    (earlier : (t u : ℕ) (w : World) → t ≤ u → site.left_since old u w → site.left_since old t w) where
  abbrev g : GraphState
  g = graph.nodes

  -- what a crash now may leave is of those since the moment, and has the graph
  then : (v : World) → LeftNow site old v → site.left_since old since v
  then v left = earlier since (site.moment old) v over.began left

  pub has_graph : (v : World) → LeftNow site old v → IsGraphIn v.store g
  has_graph v left =
      in_bytes g v.store (⊎_elim (λ (is : IsStoreOf g v.store). is) (λ (is : IsStoreOf g v.store). is) ((as_it_was site.world site.moment site.left_since graph.table g old over.stands over.is_graph g).only.each v left))

  pub is_kept : (v : World) → LeftNow site old v → IsKept next language known g
  is_kept v left =
      let world = over.kept.later v (then v left) in
      subst (IsKept next language known) (one_in_bytes v.store world.graph g world.reads (has_graph v left)) world.kept

  pub sources_before : (v : World) → LeftNow site old v → (path : Names) → file_beside v g path ≡ file_beside first over.kept.now.graph path
  sources_before v left path = over.kept.sources v g (then v left) (has_graph v left) path

  pub holds_before : (v : World) → LeftNow site old v → (path : Names) (owned : Owned) → finite.get g.owned path ≡ Some owned → HoldsItsOwn first v path owned
  holds_before v left path owned is = over.kept.own v g path owned (then v left) (has_graph v left) is

  -- the graph may follow itself
  itself : IsKept next language known g → MayFollow next language known first (LeftNow site old) g g
  itself kept = record { kept = kept; owned = λ path. inl refl; own = λ path owned is. inr (inl (owned, is, refl)) }

  module _ (h : GraphState) (may : MayFollow next language known first (LeftNow site old) g h) (v w : World) (left : LeftNow site old v) (stays : TreeStays v w) where
    file_alike : (path : Names) → finite.get w.tree path ≡ finite.get v.tree path
    file_alike path = ap (λ (tree : Tree). finite.get tree path) stays

    sources_after : (path : Names) → file_beside w h path ≡ file_beside first over.kept.now.graph path
    sources_after path = by (may.owned path) ∙ sources_before v left path
      where
        by : (is_owned h path ≡ is_owned g path) ⊎ HasNoFile (LeftNow site old) path → file_beside w h path ≡ file_beside v g path
        by (inl same) = λ i. elim (same i) [ true ↦ None | false ↦ file_alike path i ]
        by (inr none) = nothing (is_owned h path) (finite.get w.tree path) (file_alike path ∙ none v left) ∙ sym (nothing (is_owned g path) (finite.get v.tree path) (none v left))

    holds_after : (path : Names) (owned : Owned) → finite.get h.owned path ≡ Some owned → HoldsItsOwn first w path owned
    holds_after path owned is = by (may.own path owned is)
      where
        by : (owned.state ≡ Unsure) ⊎ ((was : Owned) × (finite.get g.owned path ≡ Some was) × (owned.state ≡ was.state)) ⊎ ((u : World) → LeftNow site old u → HoldsItsOwn first u path owned) → HoldsItsOwn first w path owned
        by (inl unsure) = inl unsure
        by (inr (inl (was, there, same))) = holds_alike first first v w path was owned refl (file_alike path) same (holds_before v left path was there)
        by (inr (inr each)) = holds_alike first first v w path owned owned refl (file_alike path) refl (each v left)

  -- a call leaves the tree as it is, and in the store the graph, or one that may follow
  module _ (new : S) (step : World → World → Type 0) (on : GoesOn site.moment site.left_since old new step) (stays : (v w : World) → step v w → TreeStays v w)
      (leaves : (v w : World) → LeftNow site old v → step v w → IsStoreOf g w.store ⊎ ((h : GraphState) × MayFollow next language known first (LeftNow site old) g h × IsStoreOf h w.store)) where
    abbrev Comes : World → Type 0
    Comes w = (v : World) × LeftNow site old v × TreeStays v w × ((h : GraphState) × MayFollow next language known first (LeftNow site old) g h × IsGraphIn w.store h)

    comes : (v w : World) → LeftNow site old v → step v w → Comes w
    comes v w left is = (v, left, stays v w is, by (leaves v w left is))
      where
        by : IsStoreOf g w.store ⊎ ((h : GraphState) × MayFollow next language known first (LeftNow site old) g h × IsStoreOf h w.store)
            → (h : GraphState) × MayFollow next language known first (LeftNow site old) g h × IsGraphIn w.store h
        by (inl same) = (g, itself (is_kept v left), in_bytes g w.store same)
        by (inr (h, may, stored)) = (h, may, in_bytes h w.store stored)

    either : (w : World) → site.left_since new since w → site.left_since old since w ⊎ Comes w
    either w left = ⊎_elim inl (λ from. inr (comes from.0 w from.1 from.2)) (on.since since w over.began left)

    world_kept : (w : World) → site.left_since old since w ⊎ Comes w → IsKeptWorld next language known w
    world_kept w (inl before) = over.kept.later w before
    world_kept w (inr (v, left, tree, (h, may, reads))) = record { graph = h; reads = reads; kept = may.kept }

    same_sources : (w : World) (k : GraphState) → site.left_since old since w ⊎ Comes w → IsGraphIn w.store k → (path : Names) → file_beside w k path ≡ file_beside first over.kept.now.graph path
    same_sources w k (inl before) reads path = over.kept.sources w k before reads path
    same_sources w k (inr (v, left, tree, (h, may, stored))) reads path =
        ap (λ (x : GraphState). file_beside w x path) (one_in_bytes w.store k h reads stored) ∙ sources_after h may v w left tree path

    holds_own : (w : World) (k : GraphState) (path : Names) (owned : Owned) → site.left_since old since w ⊎ Comes w → IsGraphIn w.store k → finite.get k.owned path ≡ Some owned → HoldsItsOwn first w path owned
    holds_own w k path owned (inl before) reads is = over.kept.own w k path owned before reads is
    holds_own w k path owned (inr (v, left, tree, (h, may, stored))) reads is =
        holds_after h may v w left tree path owned (subst (λ (x : GraphState). finite.get x.owned path ≡ Some owned) (one_in_bytes w.store k h reads stored) is)

    pub remains : IsKeptSite next language known first (site.left_since new since)
    remains = record {
      now = over.kept.now;
      later = λ w left. world_kept w (either w left);
      sources = λ w k left reads path. same_sources w k (either w left) reads path;
      own = λ w k path owned left reads is. holds_own w k path owned (either w left) reads is;
    }

-- what is kept with the world before a call that left the tree as it was is kept with the one after it
module _ {S : Type 0} (site : Site S) (next : Next) (language : Language) (known : List Content) (old new : S)
    (present : LeftNow site new (site.world new)) (earlier : (t u : ℕ) (w : World) → t ≤ u → site.left_since new u w → site.left_since new t w) (later : site.moment old ≤ site.moment new)
    (stays : TreeStays (site.world old) (site.world new)) (kept : IsKeptSite next language known (site.world old) (site.left_since new (site.moment old))) where
  since_old : (w : World) → LeftNow site new w → site.left_since new (site.moment old) w
  since_old w left = earlier (site.moment old) (site.moment new) w later left

  here : IsKeptWorld next language known (site.world new)
  here = kept.later (site.world new) (since_old (site.world new) present)

  pub remains_now : IsKeptSite next language known (site.world new) (LeftNow site new)
  remains_now = record {
    now = here;
    later = λ w left. kept.later w (since_old w left);
    sources = λ w k left reads path. kept.sources w k (since_old w left) reads path ∙ sym (kept.sources (site.world new) here.graph (since_old (site.world new) present) here.reads path);
    own = λ w k path owned left reads is.
        holds_alike (site.world old) (site.world new) w w path owned owned (ap (λ (tree : Tree). finite.get tree path) stays) refl refl (kept.own w k path owned (since_old w left) reads is);
  }
