-- Files of the user's at paths that no rule makes any more.
use Rattle.std.proofs.Common.{◌≡◌, ℕ, Bool, true, false, List, filter, take, Option, None, Some, All, Contains, is_none, refl, sym, ap, subst, ◌∙◌}
use Rattle.std.specs.FinMap as finite
use Rattle.std.specs.Option.{option_map}
use Rattle.std.proofs.lemmas.Bool.{true≢false}
use Rattle.std.proofs.lemmas.List.Elements.{All-contains}
use Rattle.std.proofs.lemmas.Option.{get_or_from_slice_get, none-some, same_Some, slice_get_within}
use Rattle.tup_path.specs.Name.{Names, Content}
use Rattle.tup_path.specs.Order.{by_names}
use Rattle.tup_path.specs.Tree.{Tree}
use Rattle.tup_stamp.specs.Stamp.{stamp}
use Rattle.tup_stamp.specs.declared.Stamp.{Stamp}
use Rattle.tup_site.specs.World.{World}
use Rattle.tup_rule.specs.Rule.{is_generated, maker}
use Rattle.tup_rule.specs.declared.question.Reading.{Reading}
use Rattle.tup_rule.specs.declared.rule.Rule.{Rule}
use Rattle.tup_rule.proofs.Laws.{among-decides, is_generated-at, maker-Some}
use Rattle.tup_clean.proofs.Among.{is_generated-maker}
use Rattle.tup_record.specs.declared.owned.OwnedState.{OwnedState}
use Rattle.tup_graph.specs.declared.owned.Owned.{Owned}
use Rattle.tup_graph.specs.Graph.{GraphState}
use Rattle.tup_graph.specs.Kept.{HasMakers}
use Rattle.tup_graph.specs.Swap.{IsSwapped}
use Rattle.tup_law_graph.specs.Fitting.{AreFitting}
use Rattle.tup_readers.proofs.Filtering.{in_filter}
use Rattle.tup_scan_diff.proofs.Editing.{entry_found}
use Rattle.tup_law_graph.proofs.Lists.{map_in}
use Rattle.tup_law_graph.proofs.Swapping.{owned_by, owned_if}
use Rattle.tup_law_site.proofs.Stores.{one_in_bytes}
use Rattle.tup_stale.specs.Unmade.{HasNoUsers, HasUsers, IsFirstUsers, IsUsers, lacks_maker, unmade, written_in}
use Rattle.tup_law_board.proofs.Unmade.{unmade_at}
use Rattle.tup_law_phases.specs.Language.{tupfiles}
use Rattle.tup_promise.specs.States.{StateStays}
use Rattle.tup_promise.specs.Users.{HasUsersFile, IsFirstUsersFile, IsUsersFile}
use Rattle.tup_promise.proofs.Asked.{one_asked}
use Rattle.tup_phases.specs.Kept.{IsBrought, KeepsUnmade}
use Rattle.tup_phases.proofs.Ascending.{stands_in_front, unmade_ascends}

-- ---- what no rule makes has no maker
unmade_maker : (rules : List Rule) (path : Names) → is_generated rules path ≡ false → maker path rules ≡ None
unmade_maker rules path none = by (maker path rules) refl
  where
    by : (found : Option ℕ) → maker path rules ≡ found → maker path rules ≡ None
    by None is = is
    by (Some number) is = absurd (let it = maker-Some rules path number is in true≢false (sym (is_generated-at rules path number it.rule it.here it.writes_it) ∙ none))

maker_unmade : (rules : List Rule) (path : Names) → maker path rules ≡ None → is_generated rules path ≡ false
maker_unmade rules path none = by (is_generated rules path) refl
  where
    by : (made : Bool) → is_generated rules path ≡ made → is_generated rules path ≡ false
    by true made = absurd (let it = is_generated-maker rules path made in none-some it.0 (sym none ∙ it.1))
    by false made = made

-- an owned path has no maker just where no rule makes it
module _ (g : GraphState) (makers : HasMakers g) (path : Names) (owned : Owned) (here : finite.get g.owned path ≡ Some owned) where
  made_by : is_generated g.rules path ≡ true → owned.maker ≡ None → ⊥
  made_by made none =
      let at = is_generated-maker g.rules path made in
      let it = maker-Some g.rules path at.0 at.1 in
      let owns = makers.made at.0 it.rule path it.here it.writes_it in
      none-some at.0 (sym none ∙ ap (λ (o : Owned). o.maker) (same_Some owned owns.0 (sym here ∙ owns.1)) ∙ owns.2)

  pub not_made : owned.maker ≡ None → is_generated g.rules path ≡ false
  not_made none = by (is_generated g.rules path) refl
    where
      by : (made : Bool) → is_generated g.rules path ≡ made → is_generated g.rules path ≡ false
      by true made = absurd (made_by made none)
      by false made = made

  pub no_maker : is_generated g.rules path ≡ false → owned.maker ≡ None
  no_maker unmade = by owned.maker refl
    where
      by : (maker : Option ℕ) → owned.maker ≡ maker → owned.maker ≡ None
      by None is = is
      by (Some number) is = absurd (let it = makers.makers path owned number here is in true≢false (sym (is_generated-at g.rules path number it.0 it.1 it.2) ∙ unmade))

-- ---- where the rules stay
pub still_unmade : (was g : GraphState) → HasMakers g → g.owned ≡ was.owned → KeepsUnmade was g
still_unmade was g makers owned_same = record {
  before = λ path owned is none. ((owned, sym (same_at path) ∙ is, refl), not_made g makers path owned is none);
  after = λ path old here none. let is = same_at path ∙ here in (old, is, no_maker g makers path old is none, refl);
}
  where
    same_at : (path : Names) → finite.get g.owned path ≡ finite.get was.owned path
    same_at path = ap (λ (m : finite.FinMap by_names Owned). finite.get m path) owned_same

-- ---- where others are swapped in
module _ (known : List Content) (was g new : GraphState) (owned_same : g.owned ≡ was.owned) (fresh : List (Names × Reading)) (gone : List Names) (rules : List Rule)
    (fits : AreFitting tupfiles known g fresh gone rules) (swapped : IsSwapped g fresh gone rules new) where
  there : (path : Names) → finite.get g.owned path ≡ finite.get was.owned path
  there path = ap (λ (m : finite.FinMap by_names Owned). finite.get m path) owned_same

  owned_now : (path : Names) (found : Option ℕ) (before : Option Owned) → maker path rules ≡ found → finite.get was.owned path ≡ before → finite.get new.owned path ≡ owned_by found before
  owned_now path found before makes here = owned_if tupfiles known g new fresh gone rules fits swapped path found makes ∙ ap (owned_by found) (there path ∙ here)

  lost_before : (path : Names) (owned : Owned) → finite.get new.owned path ≡ Some owned → owned.maker ≡ None → StateStays was path owned × (is_generated new.rules path ≡ false)
  lost_before path owned is none = by (maker path rules) (finite.get was.owned path) refl refl (sym (owned_now path (maker path rules) (finite.get was.owned path) refl refl) ∙ is)
    where
      by : (found : Option ℕ) (before : Option Owned) → maker path rules ≡ found → finite.get was.owned path ≡ before → owned_by found before ≡ Some owned → StateStays was path owned × (is_generated new.rules path ≡ false)
      by (Some number) before makes here so = absurd (none-some number (sym none ∙ sym (ap (λ (o : Owned). o.maker) (same_Some _ _ so))))
      by None (Some old) makes here so = (
        (old, here, ap (λ (o : Owned). o.state) (sym (same_Some _ _ so))),
        subst (λ (l : List Rule). is_generated l path ≡ false) (sym swapped.rules_are) (maker_unmade rules path makes),
      )
      by None None makes here so = absurd (none-some owned so)

  pub swap_unmade : KeepsUnmade was new
  swap_unmade = record {
    before = lost_before;
    after = λ path old here none. (
      record { maker = None; state = old.state },
      owned_now path None (Some old) (unmade_maker rules path (subst (λ (l : List Rule). is_generated l path ≡ false) swapped.rules_are none)) here,
      refl,
      refl,
    );
  }

-- ---- an owned path without a maker is among those that no rule makes
pub is_unmade : (g : GraphState) (path : Names) (owned : Owned) → finite.get g.owned path ≡ Some owned → owned.maker ≡ None → Contains (unmade g) path
is_unmade g path owned is none =
    map_in (λ (entry : Names × Owned). entry.0) (filter lacks_maker (finite.entries g.owned)) (path, owned)
    (in_filter lacks_maker (finite.entries g.owned) (path, owned) (entry_found g.owned path owned is) (ap is_none none))

-- ---- a file of the user's in a graph that was brought up to date, and in the world with which the update began
module _ (first : World) (g : GraphState) (tree : Tree) (brought : IsBrought first g) (same : tree ≡ first.tree) where
  -- the one that a clearing meets stood there
  stood_there : (path : Names) (written : Option Stamp) (found : Stamp) → IsFirstUsers g tree (unmade g) path written found → IsUsersFile first path written found
  stood_there path written found met = record {
    graph = brought.unmade.0;
    stored = brought.unmade.1;
    users = record {
      owned = before.0.0;
      owns = before.0.1;
      stands = subst (λ (t : Tree). option_map stamp (finite.get t path) ≡ Some found) same met.users.stands;
      users = subst (λ (s : OwnedState). IsUsers s found) state met.users.users;
      wrote = met.users.wrote ∙ ap written_in state;
    };
    rules = g.rules;
    asked = brought.rules;
    unmade = before.1;
  }
    where
      listed : Contains (unmade g) path
      listed = (met.at, slice_get_within (unmade g) met.at path met.here, get_or_from_slice_get (unmade g) met.at path path met.here)

      lost : (owned : Owned) × (finite.get g.owned path ≡ Some owned) × (owned.maker ≡ None)
      lost = unmade_at g path ((among-decides path (unmade g)).1 listed)

      before : StateStays brought.unmade.0 path lost.0 × (is_generated g.rules path ≡ false)
      before = brought.unmade.2.before path lost.0 lost.1 lost.2

      state : met.users.owned.state ≡ before.0.0.state
      state = ap (λ (o : Owned). o.state) (same_Some met.users.owned lost.0 (sym met.users.owns ∙ lost.1)) ∙ before.0.2

  -- and the one that stood there is met
  stays_users : (path : Names) (written : Option Stamp) (found : Stamp) → IsUsersFile first path written found → HasUsers g tree path written found × Contains (unmade g) path
  stays_users path written found it = (
    record {
      owned = after.0;
      owns = after.1;
      stands = subst (λ (t : Tree). option_map stamp (finite.get t path) ≡ Some found) (sym same) it.users.stands;
      users = subst (λ (s : OwnedState). IsUsers s found) (sym after.3) it.users.users;
      wrote = it.users.wrote ∙ ap written_in (sym after.3);
    },
    is_unmade g path after.0 after.1 after.2,
  )
    where
      owns : finite.get brought.unmade.0.owned path ≡ Some it.users.owned
      owns = ap (λ (h : GraphState). finite.get h.owned path) (sym (one_in_bytes first.store it.graph brought.unmade.0 it.stored brought.unmade.1)) ∙ it.users.owns

      after : (owned : Owned) × (finite.get g.owned path ≡ Some owned) × (owned.maker ≡ None) × (owned.state ≡ it.users.owned.state)
      after = brought.unmade.2.after path it.users.owned owns (subst (λ (l : List Rule). is_generated l path ≡ false) (one_asked first it.rules g.rules it.asked brought.rules) it.unmade)

  -- so the one that is met is the first that stood there
  pub met_users : (path : Names) (written : Option Stamp) (found : Stamp) → IsFirstUsers g tree (unmade g) path written found → IsFirstUsersFile first path written found
  met_users path written found met = record {
    users = stood_there path written found met;
    first = λ earlier was is before it.
        let there = stays_users earlier was is it in
        All-contains (HasNoUsers g tree) (take met.at (unmade g)) earlier met.first (stands_in_front (unmade g) (unmade_ascends g) met.at path earlier met.here before there.1) was is there.0;
  }

  -- and a clearing finds no such file only where none stood
  pub none_met : HasUsersFile first → All (HasNoUsers g tree) (unmade g) → ⊥
  none_met (path, written, found, it) none =
      let there = stays_users path written found it in
      All-contains (HasNoUsers g tree) (unmade g) path none there.1 written found there.0
