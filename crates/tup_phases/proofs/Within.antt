-- Graphs that stay within what a world had.
use Rattle.std.proofs.Common.{◌≡◌, ◌⊎◌, inl, inr, ℕ, ◌≤◌, ◌<◌, zero, Bool, true, false, cond, length, Option, None, Some, List, IsTrue, refl, sym, ap, subst, ◌∙◌, arith, get_or}
use Rattle.std.specs.FinMap as finite
use Rattle.std.specs.Prelude.{slice_get}
use Rattle.std.proofs.lemmas.Bool.{ltb-true}
use Rattle.std.proofs.lemmas.Option.{same_Some, slice_get_cases}
use Rattle.tup_path.specs.Name.{Names, Content}
use Rattle.tup_path.specs.Order.{by_names}
use Rattle.tup_path.specs.Tree.{Tree}
use Rattle.tup_site.specs.World.{World}
use Rattle.tup_site.specs.declared.site.Site.{Ghosts as Site}
use Rattle.tup_rule.specs.Rule.{among, maker}
use Rattle.tup_rule.specs.declared.question.Reading.{Reading}
use Rattle.tup_rule.specs.declared.rule.Rule.{Rule}
use Rattle.tup_record.specs.declared.owned.OwnedState.TheVariants.{Unsure}
use Rattle.tup_runner.specs.Next.{Next}
use Rattle.tup_table.specs.Entries.{entries_of}
use Rattle.tup_table.specs.Images.{OpenStep}
use Rattle.tup_table.specs.Table.{entries_in}
use Rattle.tup_graph.specs.declared.owned.Owned.{Owned}
use Rattle.tup_graph.specs.Graph.{GraphState, is_flagged, is_rule}
use Rattle.tup_graph.specs.Kept.{IsGraphIn, IsKept}
use Rattle.tup_graph.specs.Opening.{IsGraphOf}
use Rattle.tup_graph.specs.Reach.{IsReached, ReachedOver}
use Rattle.tup_graph.specs.Swap.{IsSwapped}
use Rattle.tup_graph.specs.Transactions.{with_doomed, with_forgotten}
use Rattle.tup_graph.proofs.Keeping.{get_removed}
use Rattle.tup_closure.proofs.Stored.{stored as runs_stored}
use Rattle.tup_stored_graph.specs.Held.{Held, StandsFor}
use Rattle.tup_commit.specs.Crash.{HasEitherOf, LeavesNoted}
use Rattle.tup_law_graph.specs.Fitting.{AreFitting}
use Rattle.tup_law_graph.proofs.Reaching.{scan_flags_are_reach}
use Rattle.tup_law_graph.proofs.Swapping.{owned_by, owned_if}
use Rattle.tup_law_site.proofs.Laws.{before}
use Rattle.tup_law_site.proofs.Remaining.{has_graph}
use Rattle.tup_law_site.proofs.Stores.{in_bytes, one_in_bytes}
use Rattle.tup_law_site.proofs.Opened.{same_graph}
use Rattle.tup_partial.specs.Plan.{AreFlagsOfRules}
use Rattle.tup_stale.specs.Crash.{ClearStep, LeavesBy}
use Rattle.tup_stale.specs.Unmade.{unmade}
use Rattle.tup_law_board.proofs.Cleared.{IsAfter, doomed_at}
use Rattle.tup_law_phases.specs.Language.{tupfiles}
use Rattle.tup_law_phases.proofs.Tupfiles.{is_language}
use Rattle.tup_promise.specs.Did.{IsScannedFrom}
use Rattle.tup_promise.specs.States.{IsNewlyOwned, StateStays}
use Rattle.tup_phases.specs.Kept.{HoldsWithin, IsBrought, IsKeptSince, StaysWithin}
use Rattle.tup_phases.specs.Prepared.{HasSeen}
use Rattle.tup_phases.proofs.Keeping.{over}

-- ---- the graph of a world stays within it
module _ (first : World) (g : GraphState) (stored : IsGraphIn first.store g) (flags : AreFlagsOfRules g) where
  rule_at : (number : ℕ) → is_rule g number ≡ true → (rule : Rule) × (slice_get g.rules number ≡ Some rule)
  rule_at number is = by (slice_get_cases g.rules number).1
    where
      by : ((rule : Rule) × (number < length g.rules) × (slice_get g.rules number ≡ Some rule) × (get_or g.rules number rule ≡ rule)) ⊎ ((length g.rules ≤ number) × (slice_get g.rules number ≡ None))
          → (rule : Rule) × (slice_get g.rules number ≡ Some rule)
      by (inl (rule, less, here, same)) = (rule, here)
      by (inr (more, none)) = absurd (let less = ltb-true number (length g.rules) is in omega (arith, less, more))

  flagged_reached : (number : ℕ) → is_flagged g number ≡ true → IsReached g first.tree g.rules number
  flagged_reached number flagged =
      let rule = rule_at number (flags number flagged) in
      let root : ReachedOver zero g first.tree g.rules number = (rule.0, rule.1, inr (inl (number, rule.1, inl flagged))) in
      (zero, root)

  pub own_within : StaysWithin first g
  own_within = record { due = λ number flagged. (g, stored, flagged_reached number flagged); states = (g, stored, λ path owned is. inl (owned, is, refl)) }

-- ---- after a scan
module _ (next : Next) (known : List Content) (first : World) (was g : GraphState) (tree : Tree) (stored : IsGraphIn first.store was) (same : tree ≡ first.tree) (kept : IsKept next tupfiles known was) (flags : AreFlagsOfRules was)
    (config : Option Content) (scanned : IsScannedFrom was config g) (seen : HasSeen g tree) where
  scan_due : (number : ℕ) → is_flagged g number ≡ true → IsReached was first.tree g.rules number
  scan_due number flagged =
      subst (λ (t : Tree). IsReached was t g.rules number) same
      (subst (λ (rules : List Rule). IsReached was tree rules number) (sym scanned.1.rules)
      ((scan_flags_are_reach next tupfiles known was g scanned.0 config tree number is_language.1 kept flags (runs_stored (entries_of stored.commits) was stored.graph) scanned.1 seen).0 flagged))

  pub scan_within : StaysWithin first g
  scan_within = record {
    due = λ number flagged. (was, stored, scan_due number flagged);
    states = (was, stored, λ path owned is. inl (owned, subst (λ (m : finite.FinMap by_names Owned). finite.get m path ≡ Some owned) scanned.1.owned is, refl));
  }

-- ---- after a swap
module _ (known : List Content) (first : World) (was g new : GraphState) (stored : IsGraphIn first.store was) (owned_same : g.owned ≡ was.owned) (fresh : List (Names × Reading)) (gone : List Names) (rules : List Rule)
    (fits : AreFitting tupfiles known g fresh gone rules) (swapped : IsSwapped g fresh gone rules new) where
  swap_state : (path : Names) (owned : Owned) → finite.get new.owned path ≡ Some owned → StateStays was path owned ⊎ IsNewlyOwned was path owned ⊎ (owned.state ≡ Unsure)
  swap_state path owned is = by (maker path rules) refl
    where
      there : finite.get g.owned path ≡ finite.get was.owned path
      there = ap (λ (m : finite.FinMap by_names Owned). finite.get m path) owned_same

      at : (found : Option ℕ) (before : Option Owned) → finite.get was.owned path ≡ before → owned_by found before ≡ Some owned → StateStays was path owned ⊎ IsNewlyOwned was path owned ⊎ (owned.state ≡ Unsure)
      at (Some number) (Some old) here same = inl (old, here, ap (λ (x : Owned). x.state) (sym (same_Some _ _ same)))
      at (Some number) None here same = inr (inl (here, ap (λ (x : Owned). x.state) (sym (same_Some _ _ same))))
      at None (Some old) here same = inl (old, here, ap (λ (x : Owned). x.state) (sym (same_Some _ _ same)))
      at None None here same = absurd (cc)

      by : (found : Option ℕ) → maker path rules ≡ found → StateStays was path owned ⊎ IsNewlyOwned was path owned ⊎ (owned.state ≡ Unsure)
      by found makes =
          at found (finite.get was.owned path) refl
          (ap (owned_by found) (sym there) ∙ sym (owned_if tupfiles known g new fresh gone rules fits swapped path found makes) ∙ is)

  pub swap_within : IsBrought first new → StaysWithin first new
  swap_within brought = record { due = λ number flagged. (brought.due number).0 flagged; states = (was, stored, swap_state) }

-- ---- after paths are cleared
module _ (first : World) (g : GraphState) (paths : List Names) (within : StaysWithin first g) where
  pub doomed_within : StaysWithin first (with_doomed g paths)
  doomed_within = record { due = within.due; states = (within.states.0, within.states.1, λ path owned is. by path owned (doomed_at g path owned paths g.owned is)) }
    where
      by : (path : Names) (owned : Owned) → IsAfter g path owned paths g.owned → StateStays within.states.0 path owned ⊎ IsNewlyOwned within.states.0 path owned ⊎ (owned.state ≡ Unsure)
      by path owned (inl unsure) = inr (inr unsure)
      by path owned (inr (apart, was)) = within.states.2 path owned was

  pub forgotten_within : StaysWithin first (with_forgotten g paths)
  forgotten_within = record { due = within.due; states = (within.states.0, within.states.1, λ path owned is. by path owned (among path paths) (sym (get_removed paths g.owned path) ∙ is)) }
    where
      by : (path : Names) (owned : Owned) (b : Bool) → cond b None (finite.get g.owned path) ≡ Some owned → StateStays within.states.0 path owned ⊎ IsNewlyOwned within.states.0 path owned ⊎ (owned.state ≡ Unsure)
      by path owned true none = absurd (cc)
      by path owned false was = within.states.2 path owned was

-- ---- what stands in a store

pub opened_on : (v w : World) → OpenStep v w → (g : GraphState) → IsGraphIn v.store g → IsGraphIn w.store g
opened_on v w step g reads = same_graph step.entries v.store w.store g step.before step.after reads

pub opened_back : (v w : World) → (w ≡ v) ⊎ OpenStep v w → (g : GraphState) → IsGraphIn w.store g → IsGraphIn v.store g
opened_back v w (inl same) g reads = subst (λ (u : World). IsGraphIn u.store g) same reads
opened_back v w (inr step) g reads = same_graph step.entries w.store v.store g step.after step.before reads

module _ {S : Type 0} (site : Site S) (tells : IsTrue site.tells) (earlier : (s : S) (t u : ℕ) (w : World) → IsTrue site.tells → t ≤ u → site.left_since s u w → site.left_since s t w)
    (present : (s : S) → IsTrue site.tells → site.left_since s (site.moment s) (site.world s)) (first : World) where
  -- the graph over a site
  module _ (next : Next) (then : World) (since : ℕ) (graph : Held) (at : S) (stands : StandsFor site.world site.moment site.left_since graph at) (is : IsGraphOf (entries_in graph.table) graph.nodes)
      (kept : IsKeptSince site next then since at) where
    stored_now : IsGraphIn (site.world at).store graph.nodes
    stored_now = has_graph site next tupfiles (site.known at) then since graph at (over site next then since graph at stands is kept) (before site tells earlier present at) (site.world at) (present at tells)

    pub over_within : StaysWithin first graph.nodes → HoldsWithin first (site.world at)
    over_within within g reads = subst (StaysWithin first) (one_in_bytes (site.world at).store graph.nodes g stored_now reads) within

    pub within_over : HoldsWithin first (site.world at) → StaysWithin first graph.nodes
    within_over holds = holds graph.nodes stored_now

  -- the one that a commit leaves
  pub noted_within : (g : GraphState) (Is : GraphState → Type 0) (old new : S) → LeavesNoted site.moment site.left_since old new g Is → StaysWithin first g → ((h : GraphState) → Is h → StaysWithin first h)
      → HoldsWithin first (site.world new)
  noted_within g Is old new leaves within each h reads = by (leaves.only.each (site.world new) (before site tells earlier present new (site.moment old) (site.moment new) (site.world new) leaves.only.later (present new tells)))
    where
      by : HasEitherOf g Is (site.world new) → StaysWithin first h
      by (inl stored) = subst (StaysWithin first) (one_in_bytes (site.world new).store g h (in_bytes g (site.world new).store stored) reads) within
      by (inr (k, is, stored)) = subst (StaysWithin first) (one_in_bytes (site.world new).store k h (in_bytes k (site.world new).store stored) reads) (each k is)

  -- and the one that a clearing leaves
  pub cleared_within : (g : GraphState) (files : List Names) (tree : Tree) (old new : S) → LeavesBy site.moment site.left_since old new (ClearStep g (unmade g) files tree) → StaysWithin first g → HoldsWithin first (site.world new)
  cleared_within g files tree old new leaves within h reads =
      by (leaves.only (site.world new) (before site tells earlier present new (site.moment old) (site.moment new) (site.world new) leaves.on.later (present new tells)))
    where
      at : (k : GraphState) → IsGraphIn (site.world new).store k → StaysWithin first k → StaysWithin first h
      at k stored keeps = subst (StaysWithin first) (one_in_bytes (site.world new).store k h stored reads) keeps

      by : (v : World) × site.left_since old (site.moment old) v × ClearStep g (unmade g) files tree v (site.world new) → StaysWithin first h
      by (v, left, inl (stored, stays)) = at g (in_bytes g (site.world new).store stored) within
      by (v, left, inr (inl (stored, beside))) = at (with_doomed g (unmade g)) (in_bytes (with_doomed g (unmade g)) (site.world new).store stored) (doomed_within first g (unmade g) within)
      by (v, left, inr (inr (stored, gone))) = at (with_forgotten g (unmade g)) (in_bytes (with_forgotten g (unmade g)) (site.world new).store stored) (forgotten_within first g (unmade g) within)
