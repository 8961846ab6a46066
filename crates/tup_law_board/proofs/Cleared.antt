-- A clearing of paths that no rule makes any more keeps a kept site.
use Rattle.std.proofs.Common.{◌≡◌, ◌⊎◌, inl, inr, ⊎_elim, ℕ, ◌≤◌, Bool, true, false, cond, ◌||◌, ◌&&◌, is_some, List, [], ◌∷◌, fold, Option, None, Some, refl, sym, ap, subst, ◌∙◌}
use Rattle.std.specs.FinMap as finite
use Rattle.std.proofs.lemmas.Option.{same_Some}
use Rattle.tup_path.specs.Name.{Names, Content}
use Rattle.tup_path.specs.Order.{same_path, same_path-by_names, by_names-total}
use Rattle.tup_path.specs.Tree.{Tree}
use Rattle.tup_path.proofs.Same.{same_path-decides}
use Rattle.tup_site.specs.Crash.{GoesOn}
use Rattle.tup_site.specs.World.{World, TreeStays}
use Rattle.tup_site.specs.declared.site.Site.{Ghosts as Site}
use Rattle.tup_stamp.specs.declared.Stamp.{Stamp}
use Rattle.tup_rule.specs.Rule.{among}
use Rattle.tup_rule.specs.declared.rule.Rule.{Rule}
use Rattle.tup_runner.specs.Next.{Next}
use Rattle.tup_record.specs.declared.owned.OwnedState.TheVariants.{Unsure}
use Rattle.tup_record.specs.declared.run.RunRecord.{RunRecord}
use Rattle.tup_graph.specs.declared.owned.Owned.{Owned}
use Rattle.tup_graph.specs.Graph.{GraphState, is_owned}
use Rattle.tup_graph.specs.Kept.{Asked, HoldsItsOwn, IsGraphIn, IsKept, IsKeptSite, IsKeptWorld, IsUnflagged, file_beside}
use Rattle.tup_graph.specs.Records.{Language}
use Rattle.tup_graph.specs.Transactions.{unsure_as, with_doomed, with_forgotten}
use Rattle.tup_graph.proofs.Keeping.{OwnedPaths, some_alike, one_unsure, all_doomed, doom_keeps, get_removed, forget_keeps}
use Rattle.tup_stored_graph.specs.Held.{Held}
use Rattle.tup_law_site.specs.Over.{LeftNow, StandsOver}
use Rattle.tup_law_site.proofs.Remaining.{holds_alike, is_kept, sources_before, holds_before}
use Rattle.tup_law_site.proofs.Stores.{in_bytes, one_in_bytes}
use Rattle.tup_stale.specs.Crash.{ClearStep}
use Rattle.tup_stale.specs.Files.{without, SameBeside}
use Rattle.tup_stale.specs.Unmade.{standing}
use Rattle.tup_law_board.proofs.Unmade.{among_filtered}

-- ---- a path that is owned once some were doomed is unsure, or none of them and as it was
module _ (g : GraphState) (q : Names) (o : Owned) where
  abbrev pub IsAfter : List Names → OwnedPaths → Type 0
  IsAfter paths owned = (o.state ≡ Unsure) ⊎ ((is_owned g q ≡ true → among q paths ≡ false) × (finite.get owned q ≡ Some o))

  pub doomed_at : (paths : List Names) (owned : OwnedPaths) → finite.get (fold (one_unsure g) owned paths) q ≡ Some o → IsAfter paths owned
  doomed_at [] owned is = inr (λ has. refl, is)
  doomed_at (path ∷ paths) owned is = by (doomed_at paths (one_unsure g owned path) is)
    where
      new : Owned → Owned
      new one = record { maker = one.maker; state = Unsure }

      got : (one : Owned) → finite.get (finite.insert owned path (new one)) q ≡ cond (same_path q path) (Some (new one)) (finite.get owned q)
      got one = finite.get-insert by_names-total owned path (new one) q ∙ ap (λ (b : Bool). cond b (Some (new one)) (finite.get owned q)) (sym (same_path-by_names q path))

      got_at : (one : Owned) (b : Bool) → same_path q path ≡ b → finite.get (finite.insert owned path (new one)) q ≡ cond b (Some (new one)) (finite.get owned q)
      got_at one b e = got one ∙ ap (λ (c : Bool). cond c (Some (new one)) (finite.get owned q)) e

      apart_too : same_path q path ≡ false → (is_owned g q ≡ true → among q paths ≡ false) → is_owned g q ≡ true → among q (path ∷ paths) ≡ false
      apart_too other apart has = ap (λ (b : Bool). b || among q paths) other ∙ apart has

      never : finite.get g.owned path ≡ None → same_path q path ≡ true → is_owned g q ≡ true → among q (path ∷ paths) ≡ false
      never none same has = absurd (let wrong : false ≡ true = sym (ap (is_owned g) ((same_path-decides q path).0 same) ∙ ap is_some none) ∙ has in cc)

      at : (found : Option Owned) → finite.get g.owned path ≡ found → (b : Bool) → same_path q path ≡ b → (is_owned g q ≡ true → among q paths ≡ false) → finite.get (unsure_as path found owned) q ≡ Some o → IsAfter (path ∷ paths) owned
      at None none true same apart put = inr (never none same, put)
      at None none false other apart put = inr (apart_too other apart, put)
      at (Some one) here true same apart put = inl (ap (λ (x : Owned). x.state) (same_Some o (new one) (sym put ∙ got_at one true same)))
      at (Some one) here false other apart put = inr (apart_too other apart, sym (got_at one false other) ∙ put)

      by : IsAfter paths (one_unsure g owned path) → IsAfter (path ∷ paths) owned
      by (inl unsure) = inl unsure
      by (inr (apart, put)) = at (finite.get g.owned path) refl (same_path q path) refl apart put

-- ---- sources beside two graphs that own a path alike
both : (a b : Bool) (x y : Option Content) → a ≡ b → (b ≡ false → x ≡ y) → ◌≡◌ {A = Option Content} (elim a [ true ↦ None | false ↦ x ]) (elim b [ true ↦ None | false ↦ y ])
both true true x y same files = refl
both false false x y same files = files refl
both true false x y same files = absurd (let wrong : true ≡ false = same in cc)
both false true x y same files = absurd (let wrong : false ≡ true = same in cc)

pub none_there : (file : Option Content) → is_some file ≡ false → file ≡ None
none_there None is = refl
none_there (Some content) is = absurd (let wrong : true ≡ false = is in cc)

module _ {S : Type 0} (site : Site S) (next : Next) (language : Language) (known : List Content) (first : World) (since : ℕ) (graph : Held) (old : S)
    (over : StandsOver site next language known first since graph old)
    (earlier : (t u : ℕ) (w : World) → t ≤ u → site.left_since old u w → site.left_since old t w) (present : LeftNow site old (site.world old))
    (paths : List Names) (unmade : (path : Names) → among path paths ≡ true → (o : Owned) × (finite.get graph.nodes.owned path ≡ Some o) × (o.maker ≡ None))
    (unread : (number : ℕ) (rule : Rule) (run : RunRecord) (path : Names) (given : Option Stamp) → IsUnflagged graph.nodes number rule → finite.get graph.nodes.runs number ≡ Some run
    → Asked rule run path given → among path paths ≡ false) where
  abbrev g : GraphState
  g = graph.nodes

  abbrev tree : Tree
  tree = (site.world old).tree

  abbrev files : List Names
  files = standing tree paths

  abbrev doomed : GraphState
  doomed = with_doomed g paths

  abbrev forgotten : GraphState
  forgotten = with_forgotten g paths

  kept_now : IsKept next language known g
  kept_now = is_kept site next language known first since graph old over earlier (site.world old) present

  -- ---- which files are cleared
  pub stands_among : (path : Names) → among path files ≡ (among path paths && is_some (finite.get tree path))
  stands_among path = among_filtered (λ (p : Names). is_some (finite.get tree p)) paths path

  outside : (path : Names) → among path paths ≡ false → among path files ≡ false
  outside path none = stands_among path ∙ ap (λ (b : Bool). b && is_some (finite.get tree path)) none

  no_file : (path : Names) → among path paths ≡ true → among path files ≡ false → finite.get tree path ≡ None
  no_file path inside none = none_there (finite.get tree path) (sym (stands_among path ∙ ap (λ (b : Bool). b && is_some (finite.get tree path)) inside) ∙ none)

  pub is_own : (path : Names) → among path paths ≡ true → is_owned g path ≡ true
  is_own path inside = ap is_some (unmade path inside).1

  unowned_outside : (path : Names) → is_owned g path ≡ false → among path paths ≡ false
  unowned_outside path none = by (among path paths) refl
    where
      by : (b : Bool) → among path paths ≡ b → among path paths ≡ false
      by false e = e
      by true e = absurd (let wrong : true ≡ false = sym (is_own path e) ∙ none in cc)

  -- ---- the doomed graph
  doomed_kept : IsKept next language known doomed
  doomed_kept = doom_keeps next language known g paths kept_now (λ path o inside here.
      ap (λ (x : Owned). x.maker) (same_Some o (unmade path inside).0 (sym here ∙ (unmade path inside).1)) ∙ (unmade path inside).2)

  doomed_sources : (v w : World) → SameBeside files v.tree w.tree → (path : Names) → file_beside w doomed path ≡ file_beside v g path
  doomed_sources v w beside path =
      both (is_owned doomed path) (is_owned g path) (finite.get w.tree path) (finite.get v.tree path)
      (some_alike (finite.get doomed.owned path) (finite.get g.owned path) (all_doomed g paths g.owned (λ q. refl) path))
      (λ none. beside path (outside path (unowned_outside path none)))

  -- ---- the one that forgot
  pub forgotten_at : (path : Names) → finite.get forgotten.owned path ≡ cond (among path paths) None (finite.get g.owned path)
  forgotten_at path = get_removed paths g.owned path

  module _ (w : World) (gone : w.tree ≡ without tree files) (path : Names) where
    file : finite.get w.tree path ≡ cond (among path files) None (finite.get tree path)
    file = ap (λ (t : Tree). finite.get t path) gone ∙ get_removed files tree path

    file_stays : among path paths ≡ false → finite.get w.tree path ≡ finite.get tree path
    file_stays none = file ∙ ap (λ (b : Bool). cond b None (finite.get tree path)) (outside path none)

    file_gone : among path paths ≡ true → finite.get w.tree path ≡ None
    file_gone inside = file ∙ by (among path files) refl
      where
        by : (b : Bool) → among path files ≡ b → cond (among path files) None (finite.get tree path) ≡ None
        by true e = ap (λ (b : Bool). cond b None (finite.get tree path)) e
        by false e = ap (λ (b : Bool). cond b None (finite.get tree path)) e ∙ no_file path inside e

    owned_then : (b : Bool) → among path paths ≡ b → is_owned forgotten path ≡ is_some (cond b None (finite.get g.owned path))
    owned_then b e = ap is_some (forgotten_at path ∙ ap (λ (c : Bool). cond c None (finite.get g.owned path)) e)

    forgotten_sources : file_beside w forgotten path ≡ file_beside (site.world old) g path
    forgotten_sources = by (among path paths) refl
      where
        by : (b : Bool) → among path paths ≡ b → file_beside w forgotten path ≡ file_beside (site.world old) g path
        by false none = both (is_owned forgotten path) (is_owned g path) (finite.get w.tree path) (finite.get tree path) (owned_then false none) (λ unowned. file_stays none)
        by true inside =
            ap (λ (b : Bool). elim b [ true ↦ None | false ↦ finite.get w.tree path ]) (owned_then true inside) ∙ file_gone inside
            ∙ sym (ap (λ (b : Bool). elim b [ true ↦ None | false ↦ finite.get tree path ]) (is_own path inside))

    forgotten_own : (o : Owned) → finite.get forgotten.owned path ≡ Some o → HoldsItsOwn first w path o
    forgotten_own o is = by (among path paths) refl (sym (forgotten_at path) ∙ is)
      where
        by : (b : Bool) → among path paths ≡ b → cond (among path paths) None (finite.get g.owned path) ≡ Some o → HoldsItsOwn first w path o
        by true inside here = absurd (let wrong : None ≡ Some o = sym (ap (λ (b : Bool). cond b None (finite.get g.owned path)) inside) ∙ here in cc)
        by false none here =
            let was : finite.get g.owned path ≡ Some o = sym (ap (λ (b : Bool). cond b None (finite.get g.owned path)) none) ∙ here in
            holds_alike first first (site.world old) w path o o refl (file_stays none) refl (holds_before site next language known first since graph old over earlier (site.world old) present path o was)

  -- ---- a world that a crash may leave meanwhile: its graph is kept, and it has the sources and holds its own as before
  abbrev Came : World → Type 0
  Came w =
      (h : GraphState) × IsGraphIn w.store h × IsKept next language known h
      × ((path : Names) → file_beside w h path ≡ file_beside first over.kept.now.graph path)
      × ((path : Names) (o : Owned) → finite.get h.owned path ≡ Some o → HoldsItsOwn first w path o)

  sources_then : (v : World) → LeftNow site old v → (path : Names) → file_beside v g path ≡ file_beside first over.kept.now.graph path
  sources_then v left path = sources_before site next language known first since graph old over earlier v left path

  held_then : (v : World) → LeftNow site old v → (path : Names) (o : Owned) → finite.get g.owned path ≡ Some o → HoldsItsOwn first v path o
  held_then v left path o is = holds_before site next language known first since graph old over earlier v left path o is

  same_beside : (v w : World) → TreeStays v w → (path : Names) → file_beside w g path ≡ file_beside v g path
  same_beside v w stays path = λ i. elim (is_owned g path) [ true ↦ None | false ↦ finite.get (stays i) path ]

  came : (v w : World) → LeftNow site old v → ClearStep g paths files tree v w → Came w
  came v w left (inl (stored, stays)) = (
    g,
    in_bytes g w.store stored,
    kept_now,
    λ path. same_beside v w stays path ∙ sources_then v left path,
    λ path o is. holds_alike first first v w path o o refl (λ i. finite.get (stays i) path) refl (held_then v left path o is),
  )
  came v w left (inr (inl (stored, beside))) = (
    doomed,
    in_bytes doomed w.store stored,
    doomed_kept,
    λ path. doomed_sources v w beside path ∙ sources_then v left path,
    λ path o is. own path o (doomed_at g path o paths g.owned is),
  )
    where
      own : (path : Names) (o : Owned) → IsAfter g path o paths g.owned → HoldsItsOwn first w path o
      own path o (inl unsure) = inl unsure
      own path o (inr (apart, was)) = holds_alike first first v w path o o refl (beside path (outside path (apart (ap is_some was)))) refl (held_then v left path o was)
  came v w left (inr (inr (stored, gone))) = (
    forgotten,
    in_bytes forgotten w.store stored,
    forget_keeps next language known g paths kept_now unmade unread,
    λ path. forgotten_sources w gone path ∙ sources_then (site.world old) present path,
    λ path o is. forgotten_own w gone path o is,
  )

  module _ (new : S) (on : GoesOn site.moment site.left_since old new (ClearStep g paths files tree)) where
    either : (w : World) → site.left_since new since w → site.left_since old since w ⊎ Came w
    either w left = ⊎_elim inl (λ from. inr (came from.0 w from.1 from.2)) (on.since since w over.began left)

    world_kept : (w : World) → site.left_since old since w ⊎ Came w → IsKeptWorld next language known w
    world_kept w (inl before) = over.kept.later w before
    world_kept w (inr (h, reads, kept, sources, own)) = record { graph = h; reads = reads; kept = kept }

    same_sources : (w : World) (k : GraphState) → site.left_since old since w ⊎ Came w → IsGraphIn w.store k → (path : Names) → file_beside w k path ≡ file_beside first over.kept.now.graph path
    same_sources w k (inl before) reads path = over.kept.sources w k before reads path
    same_sources w k (inr (h, stored, kept, sources, own)) reads path =
        ap (λ (x : GraphState). file_beside w x path) (one_in_bytes w.store k h reads stored) ∙ sources path

    holds_own : (w : World) (k : GraphState) (path : Names) (o : Owned) → site.left_since old since w ⊎ Came w → IsGraphIn w.store k → finite.get k.owned path ≡ Some o → HoldsItsOwn first w path o
    holds_own w k path o (inl before) reads is = over.kept.own w k path o before reads is
    holds_own w k path o (inr (h, stored, kept, sources, own)) reads is =
        own path o (subst (λ (x : GraphState). finite.get x.owned path ≡ Some o) (one_in_bytes w.store k h reads stored) is)

    pub cleared_remains : IsKeptSite next language known first (site.left_since new since)
    cleared_remains = record {
      now = over.kept.now;
      later = λ w left. world_kept w (either w left);
      sources = λ w k left reads path. same_sources w k (either w left) reads path;
      own = λ w k path o left reads is. holds_own w k path o (either w left) reads is;
    }
