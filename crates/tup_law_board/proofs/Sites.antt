-- A kept site stays kept while a board works on it.
use Rattle.std.proofs.Common.{◌≡◌, ⊎_elim, ℕ, ◌≤◌, false, List, None, Some, IsTrue, sym, subst, ◌∙◌, inl, inr, arith}
use Rattle.std.specs.FinMap as finite
use Rattle.std.specs.Option.{option_map}
use Rattle.std.specs.Prelude.{Contains}
use Rattle.tup_path.specs.Name.{Names, Content}
use Rattle.tup_site.specs.World.{World}
use Rattle.tup_stamp.specs.Stamp.{stamp}
use Rattle.tup_site.specs.declared.site.Site.{Ghosts as Site}
use Rattle.tup_runner.specs.Next.{Next}
use Rattle.tup_runner.specs.declared.runner.Runner.{Ghosts as Runner}
use Rattle.tup_record.specs.declared.run.RunRecord.{RunRecord}
use Rattle.tup_table.specs.Table.{entries_in}
use Rattle.tup_graph.specs.Graph.{GraphState, is_flagged}
use Rattle.tup_graph.specs.declared.owned.Owned.{Owned}
use Rattle.tup_graph.specs.Kept.{HoldsItsOwn, IsGraphIn, IsKept, IsKeptSite, IsKeptWorld}
use Rattle.tup_graph.specs.Opening.{IsGraphOf}
use Rattle.tup_graph.specs.Records.{Language}
use Rattle.tup_stored_graph.specs.Crash.{IsStoreOf}
use Rattle.tup_stored_graph.proofs.Crashes.{as_it_was}
use Rattle.tup_core.specs.Honest.{EndsHonestly}
use Rattle.tup_rule_outputs.specs.Lost.{Lost}
use Rattle.tup_law_graph.proofs.Edited.{kept_more}
use Rattle.tup_board.specs.Board.{BoardState, plan_of, first_graph, start, state}
use Rattle.tup_board.specs.Come.{HasComeTo}
use Rattle.tup_board.specs.Ends.{CouldEnd}
use Rattle.tup_board.specs.Images.{IsImageOver, StandsUnmade}
use Rattle.tup_board.specs.Outputs.{IsPending}
use Rattle.tup_board.specs.Sound.{Before, IsImage, IsSound, Since}
use Rattle.tup_board.proofs.Known.{keeps_all}
use Rattle.tup_law_site.specs.Over.{IsKeptNow, LeftNow, StandsOver}
use Rattle.tup_law_site.proofs.Remaining.{has_graph}
use Rattle.tup_law_site.proofs.Stores.{in_bytes, one_in_bytes}
use Rattle.tup_law_board.specs.Beside.{StaysBeside}
use Rattle.tup_law_board.specs.Kept.{HoldsTogether}
use Rattle.tup_law_board.proofs.Lasting.{come_kept, image_own, image_stays, seen_free}

-- ---- since any moment at which it was kept
module _ {S R : Type 0} (site : Site S) (runner : Runner R) (b : BoardState S) (sound : IsSound site runner b) (tells : IsTrue site.tells) (told : IsTrue runner.tells) (language : Language)
    (first : World) (since : ℕ) (over : StandsOver site runner.next language (site.known b.opening.site) first since b.opening.graph b.opening.site) (held : HoldsTogether b)
    (earlier : (t u : ℕ) (w : World) → t ≤ u → site.left_since b.opening.site u w → site.left_since b.opening.site t w) (present : Before site b (site.world b.opening.site)) where
  also : (content : Content) → Contains (site.known b.opening.site) content → Contains (site.known b.site) content
  also = keeps_all (site.known b.opening.site) (site.known b.site) (sound.known tells)

  could_end : (commit : Lost) → b.lost ≡ Some commit → (run : RunRecord) → commit.run ≡ Some run
      → CouldEnd (plan_of b) (start b) b.history commit.rule run (Unit {0}) (EndsHonestly runner.next (site.known b.site))
  could_end commit is run keeps =
      let could = (sound.lost commit is).run run keeps in
      record { before = could.before; after = could.after; seat = could.seat; whole = could.whole; kept = could.kept; ended = λ any. could.ended (tells, told) }

  graph_kept : (g : GraphState) → HasComeTo b g → IsKept runner.next language (site.known b.site) g
  graph_kept g come =
      come_kept site runner b sound tells runner.next language (site.known b.opening.site) first since over earlier present (site.known b.site) also (sound.honest tells told) could_end held g come

  -- a world that was kept is
  still_kept : (w : World) → IsKeptWorld runner.next language (site.known b.opening.site) w → IsKeptWorld runner.next language (site.known b.site) w
  still_kept w world = record { graph = world.graph; reads = world.reads; kept = kept_more (site.known b.opening.site) (site.known b.site) also runner.next language world.graph world.kept }

  image_beside : (w : World) → IsImage site b w → (k : GraphState) → IsGraphIn w.store k → StaysBeside first over.kept.now.graph w k
  image_beside w image =
      image_stays site runner b sound tells runner.next language (site.known b.opening.site) first since over earlier present image.0 w image.1 image.2 image.3

  pub site_kept : IsKeptSite runner.next language (site.known b.site) first (site.left_since b.site since)
  unfolding still_kept
  site_kept = record {
    now = still_kept first over.kept.now;
    later = λ w left. elim (sound.since tells since w over.began left) [
      | inl before ↦ still_kept w (over.kept.later w before)
      | inr image ↦ record { graph = image.2; reads = in_bytes image.2 w.store image.3.store; kept = graph_kept image.2 image.3.come }
    ];
    sources = λ w k left reads path. elim (sound.since tells since w over.began left) [
      | inl before ↦ over.kept.sources w k before reads path
      | inr image ↦ (image_beside w image k reads).sources path
    ];
    own = λ w k path owned left reads is. elim (sound.since tells since w over.began left) [
      | inl before ↦ over.kept.own w k path owned before reads is
      | inr image ↦ (image_beside w image k reads).own path owned is
    ];
  }

  -- what a graph has seen that has come as far is in the tree, but for the outputs of pending rules, where none is flagged that isn't pending any more
  pub seen_come : (g : GraphState) → HasComeTo b g → ((number : ℕ) → (state b).pending number ≡ false → is_flagged g number ≡ false) → (path : Names) → (IsPending (plan_of b) (state b) path → ⊥)
      → finite.get g.seen path ≡ option_map stamp (finite.get (site.world b.site).tree path)
  seen_come g come flags path free =
      seen_free site runner b sound tells runner.next language (site.known b.opening.site) first since over earlier present (site.known b.site) also (sound.honest tells told) could_end held
      g come flags path free
      ∙ sym (sound.files tells path free)

  -- so it is of the board's graph
  pub seen_now : b.lost ≡ None → (path : Names) → (IsPending (plan_of b) (state b) path → ⊥) → finite.get b.graph.nodes.seen path ≡ option_map stamp (finite.get (site.world b.site).tree path)
  seen_now none = seen_come b.graph.nodes (sound.present none).come (λ number done. (sound.present none).flags number ∙ done)

-- ---- since the board was made
module _ {S R : Type 0} (site : Site S) (runner : Runner R) (b : BoardState S) (sound : IsSound site runner b) (tells : IsTrue site.tells) (next : Next) (language : Language) (known : List Content)
    (kept : IsKeptNow site next language known b.opening.site) (is_graph : IsGraphOf (entries_in b.opening.graph.table) (first_graph b)) where
  pub over_opening : StandsOver site next language known (site.world b.opening.site) (site.moment b.opening.site) b.opening.graph b.opening.site
  over_opening = record { began = omega arith; stands = sound.opening.stands tells; is_graph = is_graph; kept = kept }

  module _ (earlier : (t u : ℕ) (w : World) → t ≤ u → site.left_since b.opening.site u w → site.left_since b.opening.site t w) (present : Before site b (site.world b.opening.site)) where
    was_first : kept.now.graph ≡ first_graph b
    was_first =
        one_in_bytes (site.world b.opening.site).store kept.now.graph (first_graph b) kept.now.reads
        (has_graph site next language known (site.world b.opening.site) (site.moment b.opening.site) b.opening.graph b.opening.site over_opening earlier (site.world b.opening.site) present)

    pub stays_beside : (w : World) → Since site b w → (k : GraphState) → IsGraphIn w.store k → StaysBeside (site.world b.opening.site) (first_graph b) w k
    unfolding over_opening
    stays_beside w left k reads =
        let image = sound.images tells w left in
        subst (λ (g : GraphState). StaysBeside (site.world b.opening.site) g w k) was_first
        (image_stays site runner b sound tells next language known (site.world b.opening.site) (site.moment b.opening.site) over_opening earlier present image.0 w image.1 image.2 image.3 k reads)

module _ {S R : Type 0} (site : Site S) (runner : Runner R) (b : BoardState S) (sound : IsSound site runner b) (tells : IsTrue site.tells) (told : IsTrue runner.tells) (language : Language)
    (kept : IsKeptNow site runner.next language (site.known b.opening.site) b.opening.site) (is_graph : IsGraphOf (entries_in b.opening.graph.table) (first_graph b)) (held : HoldsTogether b)
    (earlier : (t u : ℕ) (w : World) → t ≤ u → site.left_since b.opening.site u w → site.left_since b.opening.site t w) (present : Before site b (site.world b.opening.site)) where
  abbrev over_it : StandsOver site runner.next language (site.known b.opening.site) (site.world b.opening.site) (site.moment b.opening.site) b.opening.graph b.opening.site
  over_it = over_opening site runner b sound tells runner.next language (site.known b.opening.site) kept is_graph

  pub site_kept_since : IsKeptSite runner.next language (site.known b.site) (site.world b.opening.site) (Since site b)
  site_kept_since = site_kept site runner b sound tells told language (site.world b.opening.site) (site.moment b.opening.site) over_it held earlier present

  -- ---- beside the site as it is
  module _ (earlier_now : (t u : ℕ) (w : World) → t ≤ u → site.left_since b.site u w → site.left_since b.site t w) (present_now : LeftNow site b.site (site.world b.site)) where
    since : (w : World) → LeftNow site b.site w → Since site b w
    since w left = earlier_now (site.moment b.opening.site) (site.moment b.site) w (sound.later tells) left

    here : IsKeptWorld runner.next language (site.known b.site) (site.world b.site)
    here = site_kept_since.later (site.world b.site) (since (site.world b.site) present_now)

    -- it is kept where what is owned holds its own beside it
    kept_beside : ((w : World) (k : GraphState) (path : Names) (owned : Owned) → LeftNow site b.site w → IsGraphIn w.store k → finite.get k.owned path ≡ Some owned → HoldsItsOwn (site.world b.site) w path owned)
        → IsKeptNow site runner.next language (site.known b.site) b.site
    kept_beside holds = record {
      now = here;
      later = λ w left. site_kept_since.later w (since w left);
      sources = λ w k left reads path. site_kept_since.sources w k (since w left) reads path ∙ sym (site_kept_since.sources (site.world b.site) here.graph (since (site.world b.site) present_now) here.reads path);
      own = holds;
    }

    -- what an image that a crash now may leave owns holds its own there, where by its graph what isn't made yet is unsure, or stands as it did at the opening
    own_beside : (v w : World) → Before site b v → (g : GraphState) → IsImageOver b v w g → StandsUnmade b (site.world b.opening.site) (site.world b.site) g
        → (k : GraphState) (path : Names) (owned : Owned) → IsGraphIn w.store k → finite.get k.owned path ≡ Some owned → HoldsItsOwn (site.world b.site) w path owned
    own_beside v w before g image unmade k path owned reads is =
        let same : k ≡ g = one_in_bytes w.store k g reads (in_bytes g w.store image.store) in
        image_own site runner b sound tells runner.next language (site.known b.opening.site) (site.world b.opening.site) (site.moment b.opening.site) over_it earlier present v w before g image (site.world b.site)
        (λ q free. (sound.now tells).1.others q free) unmade path owned (subst (λ (x : GraphState). finite.get x.owned path ≡ Some owned) same is)

    -- ---- where no commit was lost
    module _ (none : b.lost ≡ None) (graph_now : IsGraphOf (entries_in b.graph.table) b.graph.nodes) where
      -- each world that a crash now may leave has the board's graph
      has_now : (w : World) → LeftNow site b.site w → IsGraphIn w.store b.graph.nodes
      has_now w left =
          in_bytes b.graph.nodes w.store
          (⊎_elim (λ (is : IsStoreOf b.graph.nodes w.store). is) (λ (is : IsStoreOf b.graph.nodes w.store). is)
          ((as_it_was site.world site.moment site.left_since b.graph.table b.graph.nodes b.site (sound.stands tells none) graph_now b.graph.nodes).only.each w left))

      now_is : (sound.now tells).0 ≡ b.graph.nodes
      now_is = one_in_bytes (site.world b.site).store (sound.now tells).0 b.graph.nodes (in_bytes (sound.now tells).0 (site.world b.site).store (sound.now tells).1.store) (has_now (site.world b.site) present_now)

      pub image_now : (g : GraphState) → b.graph.nodes ≡ g → IsImageOver b (site.world b.opening.site) (site.world b.site) g
      image_now g same = subst (IsImageOver b (site.world b.opening.site) (site.world b.site)) (now_is ∙ same) (sound.now tells).1

      holds_now : (w : World) (k : GraphState) (path : Names) (owned : Owned) → LeftNow site b.site w → IsGraphIn w.store k → finite.get k.owned path ≡ Some owned → HoldsItsOwn (site.world b.site) w path owned
      holds_now w k path owned left reads is =
          let image = sound.images tells w (since w left) in
          let mine : b.graph.nodes ≡ image.2 = one_in_bytes w.store b.graph.nodes image.2 (has_now w left) (in_bytes image.2 w.store image.3.store) in
          own_beside image.0 w image.1 image.2 image.3 (image_now image.2 mine).unmade k path owned reads is

      pub kept_now : IsKeptNow site runner.next language (site.known b.site) b.site
      kept_now = kept_beside holds_now

    -- ---- where one was lost
    module _ (commit : Lost) (lost : b.lost ≡ Some commit) where
      holds_lost : (w : World) (k : GraphState) (path : Names) (owned : Owned) → LeftNow site b.site w → IsGraphIn w.store k → finite.get k.owned path ≡ Some owned → HoldsItsOwn (site.world b.site) w path owned
      holds_lost w k path owned left reads is =
          let image = (sound.lost commit lost).torn tells w left in
          own_beside image.0 w image.1 image.2 image.3 image.4 k path owned reads is

      pub kept_lost : IsKeptNow site runner.next language (site.known b.site) b.site
      kept_lost = kept_beside holds_lost
