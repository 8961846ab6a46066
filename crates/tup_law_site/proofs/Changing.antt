-- A call that changes the file at an unsure path keeps a kept site.
use Rattle.std.proofs.Common.{◌≡◌, ◌≢◌, ◌⊎◌, inl, inr, ℕ, ◌≤◌, Bool, true, false, is_some, List, Option, None, Some, Contains, refl, sym, ap, subst, ◌∙◌, arith}
use Rattle.std.specs.FinMap as finite
use Rattle.tup_path.specs.Name.{Names, Content}
use Rattle.tup_site.specs.Cause.{SameBut}
use Rattle.tup_site.specs.Crash.{FileStep, GoesOn}
use Rattle.tup_site.specs.World.{World, StoreStays}
use Rattle.tup_site.specs.declared.site.Site.{Ghosts as Site}
use Rattle.tup_runner.specs.Next.{Next}
use Rattle.tup_graph.specs.declared.owned.Owned.{Owned}
use Rattle.tup_graph.specs.Graph.{GraphState, is_owned}
use Rattle.tup_graph.specs.Kept.{HoldsItsOwn, IsGraphIn, IsKeptSite, IsKeptWorld, file_beside}
use Rattle.tup_graph.specs.Records.{Language}
use Rattle.tup_stored_graph.specs.Held.{Held}
use Rattle.tup_law_graph.proofs.Edited.{kept_more, world_more}
use Rattle.tup_law_graph.proofs.Stable.{Settled, same_paths}
use Rattle.tup_law_site.specs.Over.{IsUnsure, LeftNow, StandsOver}
use Rattle.tup_law_site.proofs.Remaining.{holds_alike, has_graph, is_kept, sources_before, holds_before}
use Rattle.tup_law_site.proofs.Stores.{one_in_bytes}

module _ {S : Type 0} (site : Site S) (next : Next) (language : Language) (known more : List Content) (also : (content : Content) → Contains known content → Contains more content)
    (first : World) (since : ℕ) (graph : Held) (old : S) (over : StandsOver site next language known first since graph old)
    (earlier : (t u : ℕ) (w : World) → t ≤ u → site.left_since old u w → site.left_since old t w)
    (path : Names) (unsure : IsUnsure graph.nodes path) where
  abbrev g : GraphState
  g = graph.nodes

  is_own : is_owned g path ≡ true
  is_own = ap is_some unsure.here

  -- two worlds with the same files but there have the same sources beside it
  beside : (v w : World) → SameBut path v.tree w.tree → (other : Names) → file_beside w g other ≡ file_beside v g other
  beside v w same other = by (same_paths other path)
    where
      owned_there : (o : Bool) (x y : Option Content) → o ≡ true → ◌≡◌ {A = Option Content} (elim o [ true ↦ None | false ↦ x ]) (elim o [ true ↦ None | false ↦ y ])
      owned_there true x y is = refl
      owned_there false x y is = absurd (let wrong : false ≡ true = is in cc)

      by : Settled (other ≡ path) → file_beside w g other ≡ file_beside v g other
      by (inl here) = owned_there (is_owned g other) (finite.get w.tree other) (finite.get v.tree other) (ap (is_owned g) here ∙ is_own)
      by (inr apart) = λ i. elim (is_owned g other) [ true ↦ None | false ↦ same other apart i ]

  -- and hold their own alike
  hold : (base other v w : World) → ((q : Names) → q ≢ path → finite.get other.tree q ≡ finite.get base.tree q) → SameBut path v.tree w.tree → (q : Names) (owned : Owned) → finite.get g.owned q ≡ Some owned
      → HoldsItsOwn base v q owned → HoldsItsOwn other w q owned
  hold base other v w bases same q owned is held = by (same_paths q path)
    where
      by : Settled (q ≡ path) → HoldsItsOwn other w q owned
      by (inl here) =
          let both : Some owned ≡ Some unsure.owned = sym is ∙ ap (finite.get g.owned) here ∙ unsure.here in
          let one : owned ≡ unsure.owned = cc in
          inl (ap (λ (o : Owned). o.state) one ∙ unsure.state)
      by (inr apart) = holds_alike base other v w q owned owned (bases q apart) (same q apart) refl held

  module _ (new : S) (contents : List Content) (on : GoesOn site.moment site.left_since old new (FileStep path contents)) where
    abbrev Comes : World → Type 0
    Comes w = (v : World) × LeftNow site old v × FileStep path contents v w

    either : (w : World) → site.left_since new since w → site.left_since old since w ⊎ Comes w
    either w left = on.since since w over.began left

    world_kept : (w : World) → site.left_since old since w ⊎ Comes w → IsKeptWorld next language more w
    world_kept w (inl before) = world_more known more also next language w w refl (over.kept.later w before)
    world_kept w (inr (v, left, step)) = record {
      graph = g;
      reads = subst (λ (store : List ℕ). IsGraphIn store g) (sym step.store) (has_graph site next language known first since graph old over earlier v left);
      kept = kept_more known more also next language g (is_kept site next language known first since graph old over earlier v left);
    }

    graph_is : (v w : World) (k : GraphState) → LeftNow site old v → StoreStays v w → IsGraphIn w.store k → k ≡ g
    graph_is v w k left stays reads =
        one_in_bytes w.store k g reads (subst (λ (store : List ℕ). IsGraphIn store g) (sym stays) (has_graph site next language known first since graph old over earlier v left))

    same_sources : (w : World) (k : GraphState) → site.left_since old since w ⊎ Comes w → IsGraphIn w.store k → (q : Names) → file_beside w k q ≡ file_beside first over.kept.now.graph q
    same_sources w k (inl before) reads q = over.kept.sources w k before reads q
    same_sources w k (inr (v, left, step)) reads q =
        ap (λ (x : GraphState). file_beside w x q) (graph_is v w k left step.store reads) ∙ beside v w step.others q ∙ sources_before site next language known first since graph old over earlier v left q

    holds_own : (w : World) (k : GraphState) (q : Names) (owned : Owned) → site.left_since old since w ⊎ Comes w → IsGraphIn w.store k → finite.get k.owned q ≡ Some owned → HoldsItsOwn first w q owned
    holds_own w k q owned (inl before) reads is = over.kept.own w k q owned before reads is
    holds_own w k q owned (inr (v, left, step)) reads is =
        let mine = subst (λ (x : GraphState). finite.get x.owned q ≡ Some owned) (graph_is v w k left step.store reads) is in
        hold first first v w (λ other apart. refl) step.others q owned mine (holds_before site next language known first since graph old over earlier v left q owned mine)

    pub file_remains : IsKeptSite next language more first (site.left_since new since)
    file_remains = record {
      now = record { graph = over.kept.now.graph; reads = over.kept.now.reads; kept = kept_more known more also next language over.kept.now.graph over.kept.now.kept };
      later = λ w left. world_kept w (either w left);
      sources = λ w k left reads q. same_sources w k (either w left) reads q;
      own = λ w k q owned left reads is. holds_own w k q owned (either w left) reads is;
    }

-- beside the world after the call
module _ {S : Type 0} (site : Site S) (next : Next) (language : Language) (known more : List Content) (also : (content : Content) → Contains known content → Contains more content)
    (graph : Held) (old new : S) (over : StandsOver site next language known (site.world old) (site.moment old) graph old)
    (earlier : (s : S) (t u : ℕ) (w : World) → t ≤ u → site.left_since s u w → site.left_since s t w) (present : LeftNow site new (site.world new))
    (path : Names) (unsure : IsUnsure graph.nodes path) (contents : List Content) (on : GoesOn site.moment site.left_since old new (FileStep path contents))
    (others : SameBut path (site.world old).tree (site.world new).tree) where
  kept : IsKeptSite next language more (site.world old) (site.left_since new (site.moment old))
  kept = file_remains site next language known more also (site.world old) (site.moment old) graph old over (earlier old) path unsure new contents on

  since_old : (w : World) → LeftNow site new w → site.left_since new (site.moment old) w
  since_old w left = earlier new (site.moment old) (site.moment new) w on.later left

  here : IsKeptWorld next language more (site.world new)
  here = kept.later (site.world new) (since_old (site.world new) present)

  graph_is_still : (w : World) (k : GraphState) → site.left_since new (site.moment old) w → IsGraphIn w.store k → k ≡ graph.nodes
  graph_is_still w k left reads = by (on.since (site.moment old) w (omega arith) left)
    where
      by : site.left_since old (site.moment old) w ⊎ ((v : World) × LeftNow site old v × FileStep path contents v w) → k ≡ graph.nodes
      by (inl before) = one_in_bytes w.store k graph.nodes reads (has_graph site next language known (site.world old) (site.moment old) graph old over (earlier old) w before)
      by (inr (v, was, step)) = graph_is site next language known more also (site.world old) (site.moment old) graph old over (earlier old) path unsure new contents on v w k was step.store reads

  pub file_remains_now : IsKeptSite next language more (site.world new) (LeftNow site new)
  file_remains_now = record {
    now = here;
    later = λ w left. kept.later w (since_old w left);
    sources = λ w k left reads q. kept.sources w k (since_old w left) reads q ∙ sym (kept.sources (site.world new) here.graph (since_old (site.world new) present) here.reads q);
    own = λ w k q owned left reads is.
        hold site next language known more also (site.world old) (site.moment old) graph old over (earlier old) path unsure (site.world old) (site.world new) w w others (λ other apart. refl) q owned
        (subst (λ (x : GraphState). finite.get x.owned q ≡ Some owned) (graph_is_still w k (since_old w left) reads) is) (kept.own w k q owned (since_old w left) reads is);
  }
