-- What is owned, whenever since the beginning of an update a crash comes.
use Rattle.std.proofs.Common.{◌≡◌, ◌⊎◌, inl, inr, ⊎_elim, ℕ, ◌≤◌, Bool, true, false, cond, is_some, Option, None, Some, List, IsTrue, refl, sym, ap, subst, ◌∙◌}
use Rattle.std.specs.FinMap as finite
use Rattle.tup_path.specs.Name.{Names, Content}
use Rattle.tup_path.specs.Tree.{Tree}
use Rattle.tup_site.specs.Crash.{GoesOn, NoStep}
use Rattle.tup_site.specs.World.{World}
use Rattle.tup_site.specs.declared.site.Site.{Ghosts as Site}
use Rattle.tup_rule.specs.Rule.{among, is_generated, maker}
use Rattle.tup_rule.specs.declared.question.Reading.{Reading}
use Rattle.tup_rule.specs.declared.rule.Rule.{Rule}
use Rattle.tup_rule.proofs.Laws.{is_generated-at, maker-Some}
use Rattle.tup_table.specs.Images.{OpenStep}
use Rattle.tup_table.specs.Table.{entries_in}
use Rattle.tup_graph.specs.declared.owned.Owned.{Owned}
use Rattle.tup_graph.specs.Graph.{GraphState, is_owned}
use Rattle.tup_graph.specs.Kept.{IsGraphIn}
use Rattle.tup_graph.specs.Opening.{IsGraphOf}
use Rattle.tup_graph.specs.Swap.{IsSwapped}
use Rattle.tup_graph.specs.Transactions.{with_doomed, with_forgotten}
use Rattle.tup_graph.proofs.Keeping.{all_doomed, get_removed, some_alike}
use Rattle.tup_stored_graph.specs.Crash.{IsStoreOf}
use Rattle.tup_stored_graph.specs.Held.{Held, StandsFor}
use Rattle.tup_stored_graph.proofs.Crashes.{as_it_was}
use Rattle.tup_commit.specs.Crash.{HasEitherOf, LeavesNoted}
use Rattle.tup_law_graph.specs.Fitting.{AreFitting}
use Rattle.tup_law_graph.proofs.Swapping.{owned_by, owned_if}
use Rattle.tup_law_site.proofs.Laws.{before}
use Rattle.tup_law_site.proofs.Stores.{in_bytes, one_in_bytes}
use Rattle.tup_stale.specs.Crash.{ClearStep, LeavesBy}
use Rattle.tup_stale.specs.Unmade.{unmade}
use Rattle.tup_law_phases.specs.Language.{tupfiles}
use Rattle.tup_promise.specs.Crashes.{OwnsNoMore, IsAskedOutput, IsOwnedIn}
use Rattle.tup_promise.specs.Kept.{OfGraph}
use Rattle.tup_phases.specs.Kept.{IsBrought, OwnsOn}
use Rattle.tup_phases.proofs.Within.{opened_on}

-- a path that is owned after a swap was, or is an output of one of its rules
module _ (known : List Content) (g new : GraphState) (fresh : List (Names × Reading)) (gone : List Names) (rules : List Rule) (fits : AreFitting tupfiles known g fresh gone rules) (swapped : IsSwapped g fresh gone rules new) where
  pub swap_owned : (first : World) → IsBrought first new → (path : Names) → is_owned new path ≡ true → (is_owned g path ≡ true) ⊎ IsAskedOutput first path
  swap_owned first brought path owned = by (maker path rules) refl
    where
      at : (found : Option ℕ) → maker path rules ≡ found → (before : Option Owned) → finite.get g.owned path ≡ before → is_some (owned_by found before) ≡ true → (is_owned g path ≡ true) ⊎ IsAskedOutput first path
      at (Some number) makes before here is =
          let it = maker-Some rules path number makes in
          let asked = is_generated-at rules path number it.rule it.here it.writes_it in
          inr (new.rules, brought.rules, subst (λ (l : List Rule). is_generated l path ≡ true) (sym swapped.rules_are) asked)
      at None makes (Some old) here is = inl (ap is_some here)
      at None makes None here is = absurd (cc)

      by : (found : Option ℕ) → maker path rules ≡ found → (is_owned g path ≡ true) ⊎ IsAskedOutput first path
      by found makes = at found makes (finite.get g.owned path) refl (sym (ap is_some (owned_if tupfiles known g new fresh gone rules fits swapped path found makes)) ∙ owned)

-- a path that is owned once some are doomed, or forgotten, was
doomed_owned : (g : GraphState) (paths : List Names) (path : Names) → is_owned (with_doomed g paths) path ≡ true → is_owned g path ≡ true
doomed_owned g paths path owned = sym (some_alike (finite.get (with_doomed g paths).owned path) (finite.get g.owned path) (all_doomed g paths g.owned (λ q. refl) path)) ∙ owned

forgotten_owned : (g : GraphState) (paths : List Names) (path : Names) → is_owned (with_forgotten g paths) path ≡ true → is_owned g path ≡ true
forgotten_owned g paths path owned = by (among path paths) (sym (ap is_some (get_removed paths g.owned path)) ∙ owned)
  where
    by : (b : Bool) → is_some (cond b None (finite.get g.owned path)) ≡ true → is_owned g path ≡ true
    by true none = absurd (cc)
    by false is = is

module _ {S : Type 0} (site : Site S) (tells : IsTrue site.tells) (earlier : (s : S) (t u : ℕ) (w : World) → IsTrue site.tells → t ≤ u → site.left_since s u w → site.left_since s t w)
    (present : (s : S) → IsTrue site.tells → site.left_since s (site.moment s) (site.world s)) where
  -- the graph that stands over a site is that of its store
  pub stored_over : (graph : Held) (at : S) → StandsFor site.world site.moment site.left_since graph at → IsGraphOf (entries_in graph.table) graph.nodes → IsGraphIn (site.world at).store graph.nodes
  stored_over graph at stands is =
      in_bytes graph.nodes (site.world at).store
      (⊎_elim (λ (it : IsStoreOf graph.nodes (site.world at).store). it) (λ (it : IsStoreOf graph.nodes (site.world at).store). it)
      ((as_it_was site.world site.moment site.left_since graph.table graph.nodes at stands is graph.nodes).only.each (site.world at) (present at tells)))

  -- a call that only reads
  pub read_owns : (old new : S) → GoesOn site.moment site.left_since old new NoStep → OwnsOn site old new
  read_owns old new on = λ begun since within owns w left. ⊎_elim (λ was. owns w was) (λ from. absurd (from.2)) (on.since since w within left)

  -- an opening
  pub opening_owns : (old new : S) → GoesOn site.moment site.left_since old new OpenStep → OwnsOn site old new
  opening_owns old new on = λ begun since within owns w left. ⊎_elim (λ was. owns w was)
      (λ from. (let there = owns from.0 (before site tells earlier present old since (site.moment old) from.0 within from.1) in (there.0, opened_on from.0 w from.2 there.0 there.1, there.2)))
      (on.since since w within left)

  module _ (begun : S) (since : ℕ) (old new : S) (within : since ≤ site.moment old) (owns : OwnsNoMore site begun since old) (g : GraphState) (stored : IsGraphIn (site.world old).store g) where
    abbrev May : Names → Type 0
    May path = IsOwnedIn site begun path ⊎ IsAskedOutput (site.world begun) path

    pub own_here : (path : Names) → is_owned g path ≡ true → May path
    own_here path owned =
        let there = owns (site.world old) (before site tells earlier present old since (site.moment old) (site.world old) within (present old tells)) in
        there.2 path (subst (λ (h : GraphState). is_owned h path ≡ true) (one_in_bytes (site.world old).store g there.0 stored there.1) owned)

    -- a commit
    pub noted_owns : (Is : GraphState → Type 0) → LeavesNoted site.moment site.left_since old new g Is → ((h : GraphState) → Is h → (path : Names) → is_owned h path ≡ true → May path) → OwnsNoMore site begun since new
    noted_owns Is leaves each w left = by (leaves.only.before since w within left)
      where
        by : site.left_since old since w ⊎ HasEitherOf g Is w → OfGraph w (λ h. (path : Names) → is_owned h path ≡ true → May path)
        by (inl was) = owns w was
        by (inr (inl there)) = (g, in_bytes g w.store there, own_here)
        by (inr (inr (h, is, there))) = (h, in_bytes h w.store there, each h is)

    -- a clearing
    pub cleared_owns : (files : List Names) (tree : Tree) → LeavesBy site.moment site.left_since old new (ClearStep g (unmade g) files tree) → OwnsNoMore site begun since new
    cleared_owns files tree leaves w left = by (leaves.on.since since w within left)
      where
        by : site.left_since old since w ⊎ ((v : World) × site.left_since old (site.moment old) v × ClearStep g (unmade g) files tree v w) → OfGraph w (λ h. (path : Names) → is_owned h path ≡ true → May path)
        by (inl was) = owns w was
        by (inr (v, was, inl (there, stays))) = (g, in_bytes g w.store there, own_here)
        by (inr (v, was, inr (inl (there, beside)))) = (with_doomed g (unmade g), in_bytes (with_doomed g (unmade g)) w.store there, λ path owned. own_here path (doomed_owned g (unmade g) path owned))
        by (inr (v, was, inr (inr (there, gone)))) = (with_forgotten g (unmade g), in_bytes (with_forgotten g (unmade g)) w.store there, λ path owned. own_here path (forgotten_owned g (unmade g) path owned))
