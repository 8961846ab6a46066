-- A board as contracts see it (own).
use Rattle.std.specs.Prelude.{List, Option, refl}
use Rattle.std.specs.Coded.{Coded, code_by, coded×, coded_list, coded_option}
use Rattle.std.specs.FinMap as finite
use Rattle.tup_graph.specs.Graph.{GraphState}
use Rattle.tup_stored_graph.specs.Held.{Held, held_code}
use Rattle.tup_core.specs.contracts.event.CoreEvent as of_event
use Rattle.tup_core.specs.contracts.plan.Plan as of_plan
use Rattle.tup_core.specs.declared.event.CoreEvent.{CoreEvent}
use Rattle.tup_core.specs.declared.plan.Plan.{Plan}
pub use Rattle.tup_core.specs.Run.{seat_of}
use Rattle.tup_core.specs.Step.{State}
use Rattle.tup_rule_outputs.specs.Lost.{Lost, lost_code}
use Rattle.tup_schedule.specs.Course.{CourseState, first, now}

-- what a board was made of
pub record Opening (S : Type 0) : Type 0 where
  pub plan : Plan
  pub graph : Held
  pub site : S

-- what a board began with, all that happened, in its order, and what that came to
pub record BoardState (S : Type 0) : Type 0 where
  pub opening : Opening S
  pub history : List CoreEvent
  pub site : S
  pub graph : Held
  pub lost : Option Lost

-- the plan that a board runs, over the files that its graph had seen, with all that happened
abbrev pub course_of : {S : Type 0} → BoardState S → CourseState
course_of board = record { plan = board.opening.plan; files = finite.entries board.opening.graph.nodes.seen; history = board.history }

-- the plan that it runs
abbrev pub plan_of : {S : Type 0} → BoardState S → Plan
plan_of board = board.opening.plan

-- the core's state at the opening
abbrev pub start : {S : Type 0} → BoardState S → State
start board = first (course_of board)

-- and now
abbrev pub state : {S : Type 0} → BoardState S → State
state board = now (course_of board)

-- the graph that a board began with
abbrev pub first_graph : {S : Type 0} → BoardState S → GraphState
first_graph board = board.opening.graph.nodes

-- more happened, and all else is as it was
abbrev pub with_history : {S : Type 0} → BoardState S → List CoreEvent → BoardState S
with_history board history = record board { history = history }

-- ---- how contracts store it
-- an opening is stored as its fields are
abbrev pub opening_code : {S : Type 0} → Coded S → Coded (Opening S)
opening_code {S} site =
    code_by (Plan × (Held × S)) (coded× of_plan.the_row.coded (coded× held_code site))
    (λ o. (o.plan, (o.graph, o.site))) (λ p. record { plan = p.0; graph = p.1.0; site = p.1.1 }) (λ _. refl)

-- and so is a board
abbrev pub board_code : {S : Type 0} → Coded S → Coded (BoardState S)
board_code {S} site =
    code_by (Opening S × (List CoreEvent × (S × (Held × Option Lost))))
    (coded× (opening_code site) (coded× (coded_list of_event.the_row.coded) (coded× site (coded× held_code (coded_option lost_code)))))
    (λ b. (b.opening, (b.history, (b.site, (b.graph, b.lost)))))
    (λ p. record { opening = p.0; history = p.1.0; site = p.1.1.0; graph = p.1.1.1.0; lost = p.1.1.1.1 }) (λ _. refl)
