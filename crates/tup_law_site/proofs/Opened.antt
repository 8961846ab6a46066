-- An opening keeps a kept site: all that it adds to what a crash may leave is a store of the same entries.
use Rattle.std.proofs.Common.{◌≡◌, ◌⊎◌, inl, inr, ⊎_elim, ℕ, ◌≤◌, true, false, List, None, Some, refl, sym, subst, ◌∙◌}
use Rattle.std.specs.FinMap as finite
use Rattle.tup_path.specs.Name.{Names, Content}
use Rattle.tup_site.specs.Crash.{GoesOn}
use Rattle.tup_site.specs.World.{World}
use Rattle.tup_site.specs.declared.site.Site.{Ghosts as Site}
use Rattle.tup_table.specs.Entries.{Standing}
use Rattle.tup_table.specs.Images.{Leaves, OpenStep}
use Rattle.tup_runner.specs.Next.{Next}
use Rattle.tup_graph.specs.declared.owned.Owned.{Owned}
use Rattle.tup_graph.specs.Graph.{GraphState, is_owned}
use Rattle.tup_graph.specs.Kept.{HoldsItsOwn, IsGraphIn, IsKeptSite, IsKeptWorld, file_beside}
use Rattle.tup_graph.specs.Opening.{IsGraphOf}
use Rattle.tup_graph.specs.Records.{Language}
use Rattle.tup_law_site.proofs.Remaining.{holds_alike}
use Rattle.tup_law_site.proofs.Stores.{one_standing}

-- bytes that leave the same entries have the same graph in them
pub same_graph : (entries : Standing) (before after : List ℕ) (g : GraphState) → Leaves entries before → Leaves entries after → IsGraphIn before g → IsGraphIn after g
same_graph entries before after g left leaves is = record {
  commits = leaves.0;
  reads = leaves.1;
  graph = subst (λ (e : Standing). IsGraphOf e g) (one_standing before is.commits left.0 is.reads left.1 ∙ sym left.2 ∙ leaves.2) is.graph;
}

module _ {S : Type 0} (site : Site S) (next : Next) (language : Language) (known : List Content) (first : World) (since : ℕ) (old new : S) (began : since ≤ site.moment old)
    (kept : IsKeptSite next language known first (site.left_since old since)) (earlier : (t u : ℕ) (w : World) → t ≤ u → site.left_since old u w → site.left_since old t w)
    (on : GoesOn site.moment site.left_since old new OpenStep) where
  abbrev Comes : World → Type 0
  Comes w = (v : World) × site.left_since old since v × OpenStep v w

  either : (w : World) → site.left_since new since w → site.left_since old since w ⊎ Comes w
  either w left = ⊎_elim inl (λ from. inr (from.0, earlier since (site.moment old) from.0 began from.1, from.2)) (on.since since w began left)

  -- the graph after such a step is the one before it, beside the same tree
  back : (v w : World) (k : GraphState) → OpenStep v w → IsGraphIn w.store k → IsGraphIn v.store k
  back v w k step is = same_graph step.entries w.store v.store k step.after step.before is

  beside : (v w : World) (k : GraphState) (path : Names) → OpenStep v w → file_beside w k path ≡ file_beside v k path
  beside v w k path step = λ i. elim (is_owned k path) [ true ↦ None | false ↦ finite.get (step.tree i) path ]

  world_kept : (w : World) → site.left_since old since w ⊎ Comes w → IsKeptWorld next language known w
  world_kept w (inl before) = kept.later w before
  world_kept w (inr (v, left, step)) =
      let was = kept.later v left in
      record { graph = was.graph; reads = same_graph step.entries v.store w.store was.graph step.before step.after was.reads; kept = was.kept }

  same_sources : (w : World) (k : GraphState) → site.left_since old since w ⊎ Comes w → IsGraphIn w.store k → (path : Names) → file_beside w k path ≡ file_beside first kept.now.graph path
  same_sources w k (inl before) reads path = kept.sources w k before reads path
  same_sources w k (inr (v, left, step)) reads path = beside v w k path step ∙ kept.sources v k left (back v w k step reads) path

  holds_own : (w : World) (k : GraphState) (path : Names) (owned : Owned) → site.left_since old since w ⊎ Comes w → IsGraphIn w.store k → finite.get k.owned path ≡ Some owned → HoldsItsOwn first w path owned
  holds_own w k path owned (inl before) reads is = kept.own w k path owned before reads is
  holds_own w k path owned (inr (v, left, step)) reads is =
      holds_alike first first v w path owned owned refl (λ i. finite.get (step.tree i) path) refl (kept.own v k path owned left (back v w k step reads) is)

  pub opened_remains : IsKeptSite next language known first (site.left_since new since)
  opened_remains = record {
    now = kept.now;
    later = λ w left. world_kept w (either w left);
    sources = λ w k left reads path. same_sources w k (either w left) reads path;
    own = λ w k path owned left reads is. holds_own w k path owned (either w left) reads is;
  }
