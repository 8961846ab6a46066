-- What a site in memory keeps true of itself, so that its laws hold. Own.
use Rattle.std.specs.Prelude.{◌≡◌, ◌⊎◌, ℕ, ◌≤◌, ◌-◌, ◌^◌, min, List, IsSome, IsTrue, length}
use Rattle.std.proofs.Props.{props}
use Rattle.std.specs.Coded.{Coded, Coded-set, coded_ℕ, coded_bool, coded_list}
use Rattle.std.specs.FinMap as finite
use Rattle.tup_path.specs.Name.{Names, Content}
use Rattle.tup_path.specs.Tree.{Tree, IsTree, IsBelow}
use Rattle.tup_site.specs.Edit.{IsTree-prop}
use Rattle.tup_site.specs.State.{State, is_among}
use Rattle.tup_site.specs.History.{at_first, after_all, failures}
use Rattle.tup_site.specs.Known.{IsKnown, KnowsTree}
use Rattle.tup_site.specs.declared.change.Change.{Change}

-- A state as calls and edits make it. Where a path was put or removed since the last settle, so was each file that stands
-- above or below it.
pub record IsSound (state : State) : Type 0 where
  pub tree : IsTree state.world.tree
  pub in_line : (path file : Names) → IsTrue (is_among state.loose path) → IsSome (finite.get state.world.tree file) → IsBelow path file ⊎ IsBelow file path → IsTrue (is_among state.loose file)
  pub known : IsKnown state.known
  pub knows : KnowsTree state.known state.world.tree
  pub no_shorter : state.floor ≤ length state.world.store
  pub no_longer : length state.world.store ≤ state.height

-- a site is what these files and changes make of it
pub record IsNow (made_with : List (Names × Content)) (changes : List Change) (files : Tree) (bytes : List ℕ) (count : ℕ) : Type 0 where
  pub tree : files ≡ (after_all (at_first made_with) changes).world.tree
  pub store : bytes ≡ (after_all (at_first made_with) changes).world.store
  pub faults : count ≡ min (failures changes) (2 ^ 64 - 1)
  pub sound : IsSound (after_all (at_first made_with) changes)

pub IsSound-prop : (state : State) → IsProp (IsSound state)
IsSound-prop state =
    let tree = IsTree-prop state.world.tree in
    let text = Coded-set (coded_list coded_ℕ) in
    let bool = Coded-set coded_bool in
    hlevel (props, tree, text, bool)

pub IsNow-prop : (made_with : List (Names × Content)) (changes : List Change) (files : Tree) (bytes : List ℕ) (count : ℕ) → IsProp (IsNow made_with changes files bytes count)
IsNow-prop made_with changes files bytes count =
    let code : Coded Tree = finite.code (coded_list (coded_list coded_ℕ)) (coded_list coded_ℕ) in
    let tree = Coded-set code in
    let text = Coded-set (coded_list coded_ℕ) in
    let number = Coded-set coded_ℕ in
    let sound = IsSound-prop (after_all (at_first made_with) changes) in
    hlevel (props, tree, text, number, sound)
