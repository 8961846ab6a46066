-- What a crash at any moment since a board was made may leave (own).
use Rattle.std.specs.Prelude.{◌≡◌, ◌⊎◌, ℕ, true, false, Some}
use Rattle.std.specs.FinMap as finite
use Rattle.std.specs.Option.{option_map}
use Rattle.tup_path.specs.Name.{Names}
use Rattle.tup_stamp.specs.declared.Stamp.{Stamp}
use Rattle.tup_stamp.specs.Stamp.{stamp}
use Rattle.tup_site.specs.World.{World}
use Rattle.tup_record.specs.declared.owned.OwnedState.{OwnedState}
use Rattle.tup_record.specs.declared.owned.OwnedState.TheVariants.{Unsure, Written}
use Rattle.tup_graph.specs.declared.owned.Owned.{Owned}
use Rattle.tup_graph.specs.Graph.{GraphState, is_flagged}
use Rattle.tup_stored_graph.specs.Crash.{IsStoreOf}
use Rattle.tup_board.specs.Board.{BoardState, plan_of, state}
use Rattle.tup_core.specs.Step.{is_reached}
use Rattle.tup_board.specs.Outputs.{IsClaimed, Makes}
use Rattle.tup_board.specs.Come.{HasComeTo}

-- a graph owns a path in this state
pub record IsOwnedAs (g : GraphState) (path : Names) (held : OwnedState) : Type 0 where
  pub owned : Owned
  pub here : finite.get g.owned path ≡ Some owned
  pub state : owned.state ≡ held

-- a world that has the file at a path which another has
abbrev pub HasFileOf : World → World → Names → Type 0
HasFileOf v w path = finite.get w.tree path ≡ finite.get v.tree path

-- a path is written with the stamp of what it holds
pub record HoldsWritten (g : GraphState) (w : World) (path : Names) : Type 0 where
  pub seen : Stamp
  pub written : IsOwnedAs g path (Written seen)
  pub holds : option_map stamp (finite.get w.tree path) ≡ Some seen

-- in a world each output of a rule that is flagged in this graph is unsure there, or stands as in one that was
abbrev pub StandsUnmade : {S : Type 0} → BoardState S → World → World → GraphState → Type 0
StandsUnmade board v w g = (number : ℕ) (path : Names) → Makes (plan_of board) number path → is_flagged g number ≡ true → IsOwnedAs g path Unsure ⊎ HasFileOf v w path

-- a world with this graph, over one that was: as a crash may leave it where a crash before could leave the other
pub record IsImageOver {S : Type 0} (board : BoardState S) (v w : World) (g : GraphState) : Type 0 where
  pub store : IsStoreOf g w.store
  pub come : HasComeTo board g
  -- it has the files that were, beside the outputs of claimed rules
  pub others : (path : Names) → (IsClaimed (plan_of board) (state board) path → ⊥) → HasFileOf v w path
  -- a rule that was to be run and isn't flagged any more has what it wrote; one that is flagged has what was, or its
  -- outputs are unsure
  pub made : (number : ℕ) (path : Names) → Makes (plan_of board) number path → is_reached (plan_of board) number ≡ true → is_flagged g number ≡ false → HoldsWritten g w path
  pub unmade : StandsUnmade board v w g

-- a crash leaves only such worlds, over those that one before could leave
abbrev pub LeavesImages : {S : Type 0} → BoardState S → (World → Type 0) → (World → Type 0) → Type 0
LeavesImages board Before Since = (w : World) → Since w → (v : World) × Before v × (g : GraphState) × IsImageOver board v w g
