-- As a clearing leaves it, a kept site is kept.
use Rattle.std.specs.Prelude.{bytes_eq}
use Rattle.std.proofs.Common.{◌≡◌, ◌≢◌, ◌⊎◌, inl, inr, ⊎_elim, ℕ, ◌≤◌, Bool, true, false, cond, ◌||◌, is_some, List, [], ◌∷◌, Option, None, Some, All, refl, sym, ap, subst, ◌∙◌, arith}
use Rattle.std.specs.FinMap as finite
use Rattle.std.specs.Option.{option_map}
use Rattle.std.proofs.lemmas.Bool.{true≢false, and_parts}
use Rattle.std.proofs.lemmas.List.Elements.{All-head, All-tail}
use Rattle.std.proofs.lemmas.Slice.Eq.{bytes_eq-Decides}
use Rattle.tup_path.specs.Name.{Names, Content}
use Rattle.tup_path.specs.Order.{same_path}
use Rattle.tup_path.specs.Tree.{Tree}
use Rattle.tup_path.proofs.Same.{same_path-decides}
use Rattle.tup_site.specs.World.{World}
use Rattle.tup_site.specs.declared.site.Site.{Ghosts as Site}
use Rattle.tup_stamp.specs.declared.Stamp.{Stamp}
use Rattle.tup_stamp.specs.Stamp.{stamp}
use Rattle.tup_rule.specs.Rule.{among}
use Rattle.tup_rule.specs.declared.rule.Rule.{Rule}
use Rattle.tup_runner.specs.Next.{Next}
use Rattle.tup_record.specs.declared.owned.OwnedState.{OwnedState}
use Rattle.tup_record.specs.declared.owned.OwnedState.TheVariants.{Never, Unsure, Written}
use Rattle.tup_record.specs.declared.run.RunRecord.{RunRecord}
use Rattle.tup_graph.specs.declared.owned.Owned.{Owned}
use Rattle.tup_graph.specs.Graph.{GraphState}
use Rattle.tup_graph.specs.Kept.{Asked, HoldsItsOwn, IsGraphIn, IsKeptSite, IsKeptWorld, IsUnflagged}
use Rattle.tup_graph.specs.Records.{Language}
use Rattle.tup_graph.specs.Transactions.{with_doomed, with_forgotten}
use Rattle.tup_stored_graph.specs.Held.{Held}
use Rattle.tup_law_site.specs.Over.{LeftNow, StandsOver}
use Rattle.tup_law_site.proofs.Remaining.{has_graph, holds_alike}
use Rattle.tup_law_site.proofs.Stores.{in_bytes, one_in_bytes}
use Rattle.tup_stale.specs.Cleared.{SparesUsers}
use Rattle.tup_stale.specs.Crash.{ClearStep, LeavesBy}
use Rattle.tup_stale.specs.Files.{SameBeside}
use Rattle.tup_stale.specs.Unmade.{HasNoUsers, IsUsers, standing, unmade, written_in}
use Rattle.tup_law_board.proofs.Unmade.{unmade_at}
use Rattle.tup_law_board.proofs.Cleared.{IsAfter, cleared_remains, doomed_at, forgotten_at, stands_among}

-- stamps that aren't unlike are the same
stable : (one other : Stamp) → ((one ≢ other) → ⊥) → one ≡ other
stable one other not = by (bytes_eq one.0 other.0) refl
  where
    by : (b : Bool) → bytes_eq one.0 other.0 ≡ b → one ≡ other
    by true e = λ i. record { 0 = (bytes_eq-Decides one.0 other.0).0 e i }
    by false e = absurd (not (λ same. true≢false (sym ((bytes_eq-Decides one.0 other.0).1 (λ i. (same i).0)) ∙ e)))

-- what all of some paths have, one among them has
has_each : (P : Names → Type 0) (paths : List Names) (q : Names) → All P paths → among q paths ≡ true → P q
has_each P [] q all is = absurd (true≢false (sym is))
has_each P (path ∷ paths) q all is = by (same_path q path) refl is (has_each P paths q (All-tail P path paths all))
  where
    by : (b : Bool) → same_path q path ≡ b → among q (path ∷ paths) ≡ true → (among q paths ≡ true → P q) → P q
    by true same there behind = subst P (sym ((same_path-decides q path).0 same)) (All-head P path paths all)
    by false apart there behind = behind (sym (ap (λ (b : Bool). b || among q paths) apart) ∙ there)

some_there : (file : Option Content) → is_some file ≡ true → (content : Content) × (file ≡ Some content)
some_there (Some content) is = (content, refl)
some_there None is = absurd (true≢false (sym is))

-- where no file of the user's stands, the one that does is unsure or as it was written
as_written : (g : GraphState) (tree : Tree) (q : Names) (o : Owned) (content : Content) → HasNoUsers g tree q → finite.get g.owned q ≡ Some o → finite.get tree q ≡ Some content
    → (o.state ≡ Unsure) ⊎ (o.state ≡ Written (stamp content))
as_written g tree q o content none owns file = by o.state refl
  where
    stands : option_map stamp (finite.get tree q) ≡ Some (stamp content)
    stands = ap (option_map stamp) file

    no_users : IsUsers o.state (stamp content) → ⊥
    no_users users = none (written_in o.state) (stamp content) (record { owned = o; owns = owns; stands = stands; users = users; wrote = refl })

    by : (state : OwnedState) → o.state ≡ state → (o.state ≡ Unsure) ⊎ (o.state ≡ Written (stamp content))
    by Unsure is = inl is
    by Never is = absurd (no_users (subst (λ (s : OwnedState). IsUsers s (stamp content)) (sym is) tt))
    by (Written seen) is =
        inr (is ∙ ap (λ (s : Stamp). Written s) (stable seen (stamp content) (λ other. no_users (subst (λ (s : OwnedState). IsUsers s (stamp content)) (sym is) other))))

module _ {S : Type 0} (site : Site S) (next : Next) (language : Language) (known : List Content) (graph now : Held) (old new : S)
    (over : StandsOver site next language known (site.world old) (site.moment old) graph old)
    (earlier : (s : S) (t u : ℕ) (w : World) → t ≤ u → site.left_since s u w → site.left_since s t w) (present : (s : S) → LeftNow site s (site.world s))
    (unread : (number : ℕ) (rule : Rule) (run : RunRecord) (path : Names) (given : Option Stamp) → IsUnflagged graph.nodes number rule → finite.get graph.nodes.runs number ≡ Some run
    → Asked rule run path given → among path (unmade graph.nodes) ≡ false)
    (others : SameBeside (standing (site.world old).tree (unmade graph.nodes)) (site.world old).tree (site.world new).tree)
    (spares : SparesUsers site.world site.moment site.left_since (unmade graph.nodes) graph now old new)
    (leaves : LeavesBy site.moment site.left_since old new
    (ClearStep graph.nodes (unmade graph.nodes) (standing (site.world old).tree (unmade graph.nodes)) (site.world old).tree)) where
  abbrev g : GraphState
  g = graph.nodes

  abbrev tree : Tree
  tree = (site.world old).tree

  abbrev paths : List Names
  paths = unmade g

  abbrev files : List Names
  files = standing tree paths

  kept : IsKeptSite next language known (site.world old) (site.left_since new (site.moment old))
  kept = cleared_remains site next language known (site.world old) (site.moment old) graph old over (earlier old) (present old) paths (unmade_at g) unread new leaves.on

  since_old : (w : World) → LeftNow site new w → site.left_since new (site.moment old) w
  since_old w left = earlier new (site.moment old) (site.moment new) w leaves.on.later left

  here : IsKeptWorld next language known (site.world new)
  here = kept.later (site.world new) (since_old (site.world new) (present new))

  -- what is owned of a cleared path in a world that may be left is unsure, or the graph was the one before
  before_or_unsure : (w : World) (k : GraphState) (q : Names) (o : Owned) → site.left_since new (site.moment old) w → IsGraphIn w.store k → finite.get k.owned q ≡ Some o → among q paths ≡ true
      → (o.state ≡ Unsure) ⊎ (finite.get g.owned q ≡ Some o)
  before_or_unsure w k q o left reads is inside = by (leaves.on.since (site.moment old) w (omega arith) left)
    where
      as_in : (h : GraphState) → IsGraphIn w.store h → finite.get h.owned q ≡ Some o
      as_in h stored = subst (λ (x : GraphState). finite.get x.owned q ≡ Some o) (one_in_bytes w.store k h reads stored) is

      never : finite.get (with_forgotten g paths).owned q ≡ Some o → ⊥
      never there =
          let wrong : None ≡ Some o = sym (forgotten_at site next language known (site.world old) (site.moment old) graph old over (earlier old) (present old) paths (unmade_at g) unread q ∙ ap (λ (b : Bool). cond b None (finite.get g.owned q)) inside) ∙ there in
          cc

      after : IsAfter g q o paths g.owned → (o.state ≡ Unsure) ⊎ (finite.get g.owned q ≡ Some o)
      after (inl unsure) = inl unsure
      after (inr (apart, was)) = inr was

      by : site.left_since old (site.moment old) w ⊎ ((v : World) × LeftNow site old v × ClearStep g paths files tree v w) → (o.state ≡ Unsure) ⊎ (finite.get g.owned q ≡ Some o)
      by (inl was) = inr (as_in g (has_graph site next language known (site.world old) (site.moment old) graph old over (earlier old) w was))
      by (inr (v, was, inl (stored, stays))) = inr (as_in g (in_bytes g w.store stored))
      by (inr (v, was, inr (inl (stored, beside)))) = after (doomed_at g q o paths g.owned (as_in (with_doomed g paths) (in_bytes (with_doomed g paths) w.store stored)))
      by (inr (v, was, inr (inr (stored, gone)))) = absurd (never (as_in (with_forgotten g paths) (in_bytes (with_forgotten g paths) w.store stored)))

  -- a path that is cleared holds its own
  cleared_own : (w : World) (q : Names) (o : Owned) → among q files ≡ true → HasNoUsers g tree q → HoldsItsOwn (site.world old) w q o → (o.state ≡ Unsure) ⊎ (finite.get g.owned q ≡ Some o) → HoldsItsOwn (site.world new) w q o
  cleared_own w q o inside none held (inl unsure) = inl unsure
  cleared_own w q o inside none held (inr was) = by (as_written g tree q o file.0 none was file.1) held
    where
      file : (content : Content) × (finite.get tree q ≡ Some content)
      file =
          some_there (finite.get tree q)
          (and_parts (among q paths) (is_some (finite.get tree q))
          (sym (stands_among site next language known (site.world old) (site.moment old) graph old over (earlier old) (present old) paths (unmade_at g) unread q) ∙ inside)).1

      by : (o.state ≡ Unsure) ⊎ (o.state ≡ Written (stamp file.0)) → HoldsItsOwn (site.world old) w q o → HoldsItsOwn (site.world new) w q o
      by (inl unsure) holds = inl unsure
      by (inr written) (inl unsure) = inl unsure
      by (inr written) (inr (inl same)) = inr (inr (stamp file.0, written, ap (option_map stamp) (same ∙ file.1)))
      by (inr written) (inr (inr own)) = inr (inr own)

  holds_own : (w : World) (k : GraphState) (q : Names) (o : Owned) → LeftNow site new w → IsGraphIn w.store k → finite.get k.owned q ≡ Some o → HoldsItsOwn (site.world new) w q o
  holds_own w k q o left reads is = by (among q files) refl
    where
      held : HoldsItsOwn (site.world old) w q o
      held = kept.own w k q o (since_old w left) reads is

      alike : finite.get (site.world new).tree q ≡ finite.get tree q → HoldsItsOwn (site.world new) w q o
      alike same = holds_alike (site.world old) (site.world new) w w q o o same refl refl held

      among_both : among q files ≡ true → among q paths ≡ true
      among_both inside =
          (and_parts (among q paths) (is_some (finite.get tree q))
          (sym (stands_among site next language known (site.world old) (site.moment old) graph old over (earlier old) (present old) paths (unmade_at g) unread q) ∙ inside)).0

      by : (b : Bool) → among q files ≡ b → HoldsItsOwn (site.world new) w q o
      by false outside = alike (others q outside)
      by true inside =
          ⊎_elim
          (λ none. cleared_own w q o inside (has_each (HasNoUsers g tree) paths q none (among_both inside)) held (before_or_unsure w k q o (since_old w left) reads is (among_both inside)))
          (λ same. alike (ap (λ (u : World). finite.get u.tree q) same.1)) spares

  pub cleared_now : IsKeptSite next language known (site.world new) (LeftNow site new)
  cleared_now = record {
    now = here;
    later = λ w left. kept.later w (since_old w left);
    sources = λ w k left reads path. kept.sources w k (since_old w left) reads path ∙ sym (kept.sources (site.world new) here.graph (since_old (site.world new) (present new)) here.reads path);
    own = λ w k path o left reads is. holds_own w k path o left reads is;
  }
