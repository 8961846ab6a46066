-- The files that a clearing removes are those that have to go in the world that was there first.
use Rattle.std.proofs.Common.{◌≡◌, true, false, List, Option, None, Some, is_some, Contains, refl, sym, ap, subst}
use Rattle.std.specs.FinMap as finite
use Rattle.std.proofs.lemmas.Bool.{false≢true}
use Rattle.tup_path.specs.Name.{Names}
use Rattle.tup_path.specs.Tree.{Tree}
use Rattle.tup_site.specs.World.{World}
use Rattle.tup_rule.specs.Rule.{is_generated}
use Rattle.tup_rule.specs.declared.rule.Rule.{Rule}
use Rattle.tup_rule.proofs.Laws.{among-decides}
use Rattle.tup_graph.specs.declared.owned.Owned.{Owned}
use Rattle.tup_graph.specs.Graph.{GraphState, is_owned}
use Rattle.tup_ledger.proofs.Keys.{filtered_ascend}
use Rattle.tup_readers.proofs.Filtering.{filter_in, in_filter}
use Rattle.tup_law_site.proofs.Stores.{one_in_bytes}
use Rattle.tup_law_board.proofs.Unmade.{unmade_at}
use Rattle.tup_stale.specs.Unmade.{standing, unmade}
use Rattle.tup_promise.specs.Did.{IsToRemove, RemovesWhatIsUnmade}
use Rattle.tup_promise.specs.States.{StateStays}
use Rattle.tup_promise.proofs.Asked.{one_asked}
use Rattle.tup_phases.specs.Kept.{IsBrought}
use Rattle.tup_phases.proofs.Ascending.{unmade_ascends}
use Rattle.tup_phases.proofs.Users.{is_unmade}

-- what is there has a value
there : {X : Type 0} (found : Option X) → is_some found ≡ true → (value : X) × (found ≡ Some value)
there None is = absurd (false≢true is)
there (Some value) is = (value, refl)

-- ---- in a graph that was brought up to date
module _ (first : World) (g : GraphState) (tree : Tree) (brought : IsBrought first g) (same : tree ≡ first.tree) where
  module _ (path : Names) where
    -- a file that stands at a path that no rule makes any more has to go
    has_to_go : Contains (standing tree (unmade g)) path → IsToRemove first path
    has_to_go listed = record {
      graph = brought.unmade.0;
      stored = brought.unmade.1;
      owned = ap is_some before.0.1;
      stands = subst (λ (t : Tree). is_some (finite.get t path) ≡ true) same it.1;
      rules = g.rules;
      asked = brought.rules;
      unmade = before.1;
    }
      where
        it : Contains (unmade g) path × (is_some (finite.get tree path) ≡ true)
        it = filter_in (λ p. is_some (finite.get tree p)) (unmade g) path listed

        lost : (owned : Owned) × (finite.get g.owned path ≡ Some owned) × (owned.maker ≡ None)
        lost = unmade_at g path ((among-decides path (unmade g)).1 it.0)

        before : StateStays brought.unmade.0 path lost.0 × (is_generated g.rules path ≡ false)
        before = brought.unmade.2.before path lost.0 lost.1 lost.2

    -- and what has to go stands at such a path
    goes : IsToRemove first path → Contains (standing tree (unmade g)) path
    goes it = in_filter (λ p. is_some (finite.get tree p)) (unmade g) path (is_unmade g path after.0 after.1 after.2) (subst (λ (t : Tree). is_some (finite.get t path) ≡ true) (sym same) it.stands)
      where
        old : (owned : Owned) × (finite.get brought.unmade.0.owned path ≡ Some owned)
        old = there (finite.get brought.unmade.0.owned path) (subst (λ (h : GraphState). is_owned h path ≡ true) (one_in_bytes first.store it.graph brought.unmade.0 it.stored brought.unmade.1) it.owned)

        made_by_none : is_generated g.rules path ≡ false
        made_by_none = subst (λ (rules : List Rule). is_generated rules path ≡ false) (one_asked first it.rules g.rules it.asked brought.rules) it.unmade

        lost : (owned : Owned) × (finite.get g.owned path ≡ Some owned) × (owned.maker ≡ None) × (owned.state ≡ old.0.state)
        lost = brought.unmade.2.after path old.0 old.1 made_by_none

        after : (owned : Owned) × (finite.get g.owned path ≡ Some owned) × (owned.maker ≡ None)
        after = (lost.0, lost.1, lost.2)

  pub removes_these : (removed : List Names) → removed ≡ standing tree (unmade g) → RemovesWhatIsUnmade first removed
  removes_these removed are = subst (RemovesWhatIsUnmade first) (sym are) (record {
    ascend = filtered_ascend (λ path. is_some (finite.get tree path)) (unmade g) (unmade_ascends g);
    just = λ path. (has_to_go path, goes path);
  })
