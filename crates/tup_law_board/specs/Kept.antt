-- What a board has to hold beside its own promises so that each image of a kept site is kept (own).
use Rattle.std.specs.Prelude.{◌≡◌, ◌≢◌, ℕ, true, false, List, ◌++◌, Option, None, Some, slice_get}
use Rattle.std.specs.FinMap as finite
use Rattle.std.specs.List.{IsDistinct}
use Rattle.tup_path.specs.Name.{Names, Content}
use Rattle.tup_path.specs.Order.{same_path}
use Rattle.tup_stamp.specs.declared.Stamp.{Stamp}
use Rattle.tup_rule.specs.declared.rule.Rule.{Rule}
use Rattle.tup_runner.specs.Next.{Next}
use Rattle.tup_access.specs.Access.{may_read}
use Rattle.tup_access.specs.declared.verdict.Verdict.TheVariants.{Good}
use Rattle.tup_record.specs.declared.run.RunRecord.{RunRecord}
use Rattle.tup_graph.specs.declared.owned.Owned.{Owned}
use Rattle.tup_core.specs.Honest.{EndsHonestly}
use Rattle.tup_core.specs.Run.{end_of}
use Rattle.tup_core.specs.declared.event.CoreEvent.{CoreEvent}
use Rattle.tup_board.specs.Board.{BoardState, first_graph, plan_of, start, state}
use Rattle.tup_board.specs.Ends.{IsRecordOf}
use Rattle.tup_board.specs.Outputs.{Makes}

-- every owned path of the graph that a board began with has a maker, and no rule names an output twice
pub record HoldsTogether {S : Type 0} (board : BoardState S) : Type 0 where
  pub made : (path : Names) (owned : Owned) → finite.get (first_graph board).owned path ≡ Some owned → owned.maker ≢ None
  pub once : (number : ℕ) (rule : Rule) → slice_get (plan_of board).rules number ≡ Some rule → IsDistinct same_path rule.outputs

-- a rule's command came to a Good end with this record, as its runner means, or could have, at some moment of a board
pub record CameTo {S : Type 0} (board : BoardState S) (next : Next) (known : List Content) (number : ℕ) (run : RunRecord) : Type 0 where
  pub front : List CoreEvent
  pub back : List CoreEvent
  pub whole : board.history ≡ front ++ back
  pub seat : ℕ
  pub kept : IsRecordOf (plan_of board) (end_of (plan_of board) (start board) front) seat number run
  pub ends : EndsHonestly next known kept.rule kept.running None Good run.writes

-- what such a command was told of a path: it might read it, it stands to this day, and its maker waits no more
pub record AskStands {S : Type 0} (board : BoardState S) (rule : Rule) (path : Names) (given : Option Stamp) : Type 0 where
  pub readable : may_read (plan_of board).rules rule path ≡ true
  pub stamp : given ≡ (state board).files path
  pub done : (number : ℕ) → Makes (plan_of board) number path → (state board).pending number ≡ false
