-- The laws of the calls, from what follows a graph.
use Rattle.std.proofs.Common.{◌≡◌, inl, inr, ⊎_elim, ℕ, ◌≤◌, Bool, true, false, cond, IsTrue, List, Option, None, Some, All, Contains, refl, sym, ap, ◌∙◌}
use Rattle.std.specs.Prelude.{option_to_list}
use Rattle.std.specs.FinMap as finite
use Rattle.std.specs.Option.{option_map}
use Rattle.tup_path.specs.Name.{Names, Content}
use Rattle.tup_site.specs.Crash.{GoesOn, NoStep}
use Rattle.tup_site.specs.World.{World}
use Rattle.tup_site.specs.declared.site.Site.{Ghosts as Site}
use Rattle.tup_stamp.specs.declared.Stamp.{Stamp}
use Rattle.tup_stamp.specs.Stamp.{stamp}
use Rattle.tup_rule.specs.declared.question.Reading.{Reading}
use Rattle.tup_rule.specs.declared.rule.Rule.{Rule}
use Rattle.tup_runner.specs.Next.{Next}
use Rattle.tup_graph.specs.Graph.{GraphState, is_owned, source}
use Rattle.tup_graph.specs.Kept.{IsGraphIn, IsKept, IsKeptSite, file_beside}
use Rattle.tup_graph.specs.Reach.{stamp_in}
use Rattle.tup_graph.specs.Records.{Language}
use Rattle.tup_graph.specs.Scan.{IsScanned}
use Rattle.tup_graph.specs.Swap.{IsSwapped}
use Rattle.tup_stored_graph.specs.Crash.{GraphStep, LeavesEither}
use Rattle.tup_stored_graph.specs.Held.{Held}
use Rattle.tup_law_graph.specs.Fitting.{AreFitting}
use Rattle.tup_commit.specs.Crash.{HasEitherOf, LeavesNoted, NoteStep}
use Rattle.tup_law_site.specs.Over.{HasNoFile, LeftNow, MayFollow, StandsOver}
use Rattle.tup_law_site.proofs.Noting.{new_is_unseen, scan_follows, swap_follows}
use Rattle.tup_law_site.proofs.Remaining.{is_kept, remains, sources_before}

module _ {S : Type 0} (site : Site S) (tells : IsTrue site.tells) (earlier : (s : S) (t u : ℕ) (w : World) → IsTrue site.tells → t ≤ u → site.left_since s u w → site.left_since s t w)
    (present : (s : S) → IsTrue site.tells → site.left_since s (site.moment s) (site.world s)) where
  pub before : (s : S) (t u : ℕ) (w : World) → t ≤ u → site.left_since s u w → site.left_since s t w
  before s t u w within left = earlier s t u w tells within left

  module _ (next : Next) (language : Language) (known : List Content) (first : World) (since : ℕ) (graph : Held) (old new : S) (over : StandsOver site next language known first since graph old) where
    abbrev g : GraphState
    g = graph.nodes

    abbrev Follows : GraphState → Type 0
    Follows h = MayFollow next language known first (LeftNow site old) g h

    pub kept_before : IsKept next language known g
    kept_before = is_kept site next language known first since graph old over (before old) (site.world old) (present old tells)

    -- a call that leaves the graph, or the one after it
    pub keeps_either : (h : GraphState) → Follows h → LeavesEither site.moment site.left_since old new g h → IsKeptSite next language known first (site.left_since new since)
    keeps_either h may leaves =
        remains site next language known first since graph old over (before old) new (GraphStep g h) leaves.on (λ v w step. step.tree)
        (λ v w left step. ⊎_elim inl (λ is. inr (h, may, is)) step.store)

    -- a call that leaves the graph, or such a one
    pub keeps_noted : (Is : GraphState → Type 0) → ((h : GraphState) → Is h → Follows h) → LeavesNoted site.moment site.left_since old new g Is → IsKeptSite next language known first (site.left_since new since)
    keeps_noted Is may leaves =
        remains site next language known first since graph old over (before old) new (NoteStep g Is) leaves.on (λ v w step. step.tree)
        (λ v w left step. ⊎_elim inl (λ one. inr (one.0, may one.0 one.1, one.2)) step.store)

    pub keeps_scan : (files : List (Names × Stamp)) (config : Option Content) → All (Contains known) (option_to_list config) → LeavesNoted site.moment site.left_since old new g (IsScanned g files config)
        → IsKeptSite next language known first (site.left_since new since)
    keeps_scan files config knows leaves = keeps_noted (IsScanned g files config) (λ h is. scan_follows next language known first (LeftNow site old) g h kept_before files config knows is) leaves

    -- where a path isn't owned and no file is seen, none stands in any world
    module _ (seen : (path : Names) → finite.get g.seen path ≡ stamp_in (site.world old).tree path) (owned_still : (was : GraphState) (path : Names) → IsGraphIn first.store was → is_owned was path ≡ true → is_owned g path ≡ true) (path : Names)
        (unowned : is_owned g path ≡ false) (unseen : source g path ≡ None) where
      none_of : (file : Option Content) → option_map stamp file ≡ None → file ≡ None
      none_of None is = refl
      none_of (Some content) is = absurd (cc)

      beside_is : (world : World) (h : GraphState) → is_owned h path ≡ false → file_beside world h path ≡ finite.get world.tree path
      beside_is world h off = ap (λ (b : Bool). elim b [ true ↦ None | false ↦ finite.get world.tree path ]) off

      none_now : finite.get (site.world old).tree path ≡ None
      none_now = none_of (finite.get (site.world old).tree path) (sym (seen path) ∙ sym (ap (λ (b : Bool). cond b None (finite.get g.seen path)) unowned) ∙ unseen)

      none_first : file_beside first over.kept.now.graph path ≡ None
      none_first =
          sym (sources_before site next language known first since graph old over (before old) (site.world old) (present old tells) path)
          ∙ beside_is (site.world old) g unowned ∙ none_now

      pub none_left : HasNoFile (LeftNow site old) path
      none_left w left =
          sym (beside_is w g unowned) ∙ sources_before site next language known first since graph old over (before old) w left path ∙ none_first

      pub none_at_first : finite.get first.tree path ≡ None
      none_at_first = by (is_owned over.kept.now.graph path) refl
        where
          by : (b : Bool) → is_owned over.kept.now.graph path ≡ b → finite.get first.tree path ≡ None
          by true was = absurd (let wrong : true ≡ false = sym (owned_still over.kept.now.graph path over.kept.now.reads was) ∙ unowned in cc)
          by false off = sym (beside_is first over.kept.now.graph off) ∙ none_first

    pub keeps_swap : (fresh : List (Names × Reading)) (gone : List Names) (rules : List Rule) → AreFitting language known g fresh gone rules
        → ((path : Names) → finite.get g.seen path ≡ stamp_in (site.world old).tree path) → ((was : GraphState) (path : Names) → IsGraphIn first.store was → is_owned was path ≡ true → is_owned g path ≡ true)
        → LeavesNoted site.moment site.left_since old new g (IsSwapped g fresh gone rules) → IsKeptSite next language known first (site.left_since new since)
    keeps_swap fresh gone rules fits seen owned_still leaves =
        keeps_noted (IsSwapped g fresh gone rules)
        (λ h is. swap_follows next language known first (LeftNow site old) g h kept_before fresh gone rules fits is
        (λ path off on. (let unseen = new_is_unseen next language known first (LeftNow site old) g h kept_before fresh gone rules fits is path off on in (
          none_left seen owned_still path off unseen,
          none_at_first seen owned_still path off unseen,
        ))))
        leaves

-- a call that adds nothing to what may be left
pub keeps_read : {S : Type 0} (site : Site S) (next : Next) (language : Language) (known : List Content) (first : World) (since : ℕ) (old new : S) → since ≤ site.moment old
    → IsKeptSite next language known first (site.left_since old since) → GoesOn site.moment site.left_since old new NoStep → IsKeptSite next language known first (site.left_since new since)
keeps_read site next language known first since old new began kept on = record {
  now = kept.now;
  later = λ w left. kept.later w (still w left);
  sources = λ w k left reads path. kept.sources w k (still w left) reads path;
  own = λ w k path owned left reads is. kept.own w k path owned (still w left) reads is;
}
  where
    still : (w : World) → site.left_since new since w → site.left_since old since w
    still w left = ⊎_elim (λ was. was) (λ from. absurd (from.2)) (on.since since w began left)

-- what is noted has whatever each such graph has
pub noted_weaker : {S : Type 0} (moment : S → ℕ) (left_since : S → ℕ → World → Type 0) (old new : S) (g : GraphState) (Is More : GraphState → Type 0) → ((h : GraphState) → Is h → More h)
    → LeavesNoted moment left_since old new g Is → LeavesNoted moment left_since old new g More
noted_weaker moment left_since old new g Is More weaker leaves = record {
  only = record {
    later = leaves.only.later;
    each = λ w left. has w (leaves.only.each w left);
    before = λ t w within left. ⊎_elim inl (λ is. inr (has w is)) (leaves.only.before t w within left);
  };
  on = record {
    later = leaves.on.later;
    kept = leaves.on.kept;
    since = λ t w within left. ⊎_elim inl (λ from. inr (from.0, from.1, record { tree = from.2.tree; store = has w from.2.store })) (leaves.on.since t w within left);
  };
}
  where
    has : (w : World) → HasEitherOf g Is w → HasEitherOf g More w
    has w is = ⊎_elim inl (λ one. inr (one.0, weaker one.0 one.1, one.2)) is
