-- How far a graph has come with the rules of a plan, one by one (own).
use Rattle.std.specs.Prelude.{◌≡◌, ◌⊎◌, ℕ, true, false, Option, None, Some, slice_get}
use Rattle.std.specs.FinMap as finite
use Rattle.tup_path.specs.Name.{Names}
use Rattle.tup_rule.specs.declared.rule.Rule.{Rule}
use Rattle.tup_rule.specs.Rule.{writes, is_generated}
use Rattle.tup_rule.specs.Producer.{DeclaredProducer}
use Rattle.tup_record.specs.declared.run.RunRecord.{RunRecord}
use Rattle.tup_graph.specs.Graph.{GraphState, is_flagged}
use Rattle.tup_graph.specs.Transactions.{begun, finished}
use Rattle.tup_core.specs.declared.plan.Plan.{Plan}
use Rattle.tup_core.specs.Step.{is_reached}
use Rattle.tup_rule_outputs.specs.Lost.{Lost}
use Rattle.tup_board.specs.Board.{BoardState, plan_of, first_graph, start, state}
use Rattle.tup_board.specs.Ends.{HasEnded}

-- a graph has of a rule what another has: its record, its flag, and what is known of its outputs
pub record HasOf (other g : GraphState) (number : ℕ) (rule : Rule) : Type 0 where
  pub run : finite.get g.runs number ≡ finite.get other.runs number
  pub flag : is_flagged g number ≡ is_flagged other number
  pub owned : (path : Names) → writes rule path ≡ true → finite.get g.owned path ≡ finite.get other.owned path
  pub seen : (path : Names) → writes rule path ≡ true → finite.get g.seen path ≡ finite.get other.seen path

-- and beside the rules of a plan and their outputs
pub record HasBeside (plan : Plan) (other g : GraphState) : Type 0 where
  pub readings : g.readings ≡ other.readings
  pub rules : g.rules ≡ other.rules
  pub places : g.places ≡ other.places
  pub created : g.created ≡ other.created
  pub owned : (path : Names) → is_generated plan.rules path ≡ false → finite.get g.owned path ≡ finite.get other.owned path
  pub seen : (path : Names) → is_generated plan.rules path ≡ false → finite.get g.seen path ≡ finite.get other.seen path
  pub runs : (number : ℕ) → slice_get plan.rules number ≡ None → finite.get g.runs number ≡ finite.get other.runs number
  pub flags : (number : ℕ) → slice_get plan.rules number ≡ None → is_flagged g number ≡ is_flagged other number

-- a commit that was lost was to keep this run of a rule
pub record WasToKeep (lost : Option Lost) (number : ℕ) (run : RunRecord) : Type 0 where
  pub commit : Lost
  pub here : lost ≡ Some commit
  pub rule : commit.rule ≡ number
  pub kept : commit.run ≡ Some run

-- of a rule a graph has what the board began with; or its run had begun, once it was claimed; or what its good end
-- leaves, which happened, or whose commit was lost
abbrev pub HasCome : {S : Type 0} → BoardState S → GraphState → ℕ → Rule → Type 0
HasCome board g number rule =
    HasOf (first_graph board) g number rule
    ⊎ (((state board).claimed number ≡ true) × HasOf (begun (first_graph board) number) g number rule)
    ⊎ ((run : RunRecord) × (HasEnded (plan_of board) (start board) board.history number run ⊎ WasToKeep board.lost number run)
    × HasOf (finished (first_graph board) number run) g number rule)

-- a graph has come so far with each rule, and with none further than with its declared producers: where it isn't flagged
-- any more, they aren't either
pub record HasComeTo {S : Type 0} (board : BoardState S) (g : GraphState) : Type 0 where
  pub beside : HasBeside (plan_of board) (first_graph board) g
  pub each : (number : ℕ) (rule : Rule) → slice_get (plan_of board).rules number ≡ Some rule → HasCome board g number rule
  pub producers : (number other : ℕ) (rule : Rule) → slice_get (plan_of board).rules number ≡ Some rule → is_reached (plan_of board) number ≡ true
      → is_flagged g number ≡ false → DeclaredProducer (plan_of board).rules rule other → is_flagged g other ≡ false

-- the graph of a board at present: the rules that are pending are flagged, and no others
pub record IsPresent {S : Type 0} (board : BoardState S) (g : GraphState) : Type 0 where
  pub come : HasComeTo board g
  pub flags : (number : ℕ) → is_flagged g number ≡ (state board).pending number
