-- What a command sees of a board from its seat (own).
use Rattle.std.specs.Prelude.{◌≡◌, ◌≢◌, ◌⊎◌, ℕ, true, false, Bool, List, [], ◌∷◌, ◌++◌, Option, None, Some, Result, Ok, Err, All, IsTrue, option_map, is_none}
use Rattle.tup_stamp.specs.declared.Stamp.{Stamp}
use Rattle.tup_runner.specs.Next.{Asks}
use Rattle.tup_runner.specs.Refusal.{Refusal}
use Rattle.tup_runner.specs.declared.fault.RunFailed.{RunFailed}
use Rattle.tup_runner.specs.declared.fault.RunFailed.TheVariants.{Denied as WasDenied, View as ByView}
use Rattle.tup_runner.specs.declared.runner.Runner.{Ghosts as Runner}
use Rattle.tup_runner.specs.declared.step.Answer.{Answer}
use Rattle.tup_runner.specs.declared.step.Answer.TheVariants.{Content as Holds, Absent as Nothing}
use Rattle.tup_runner.specs.declared.fault.ViewFailed.{ViewFailed}
use Rattle.tup_runner.specs.declared.fault.ViewFailed.TheVariants.{Denied, Fault, Memory}
use Rattle.tup_site.specs.declared.site.Site.{Ghosts as Site}
use Rattle.tup_access.specs.declared.verdict.Verdict.{Verdict}
use Rattle.tup_board.specs.declared.answers.Asked.{Asked}
use Rattle.tup_board.specs.declared.answers.Asked.TheVariants as reply_by
use Rattle.tup_board.specs.declared.seat.Refused.{Refused}
use Rattle.tup_core.specs.declared.event.Cause.TheVariants.{Run, Site as Failed}
use Rattle.tup_core.specs.declared.event.CoreEvent.{CoreEvent}
use Rattle.tup_core.specs.declared.running.Running.{Running}
use Rattle.tup_core.specs.Run.{claims}
use Rattle.tup_rule_outputs.specs.declared.fault.BoardFault.{BoardFault}
use Rattle.tup_rule_outputs.specs.declared.fault.BoardFault.TheVariants as fault_by
use Rattle.tup_board.specs.Board.{BoardState, seat_of, state}
use Rattle.tup_board.specs.Calls.{AreStamped, AreKnown, MeansDenied}

-- whether a seat runs a rule whose command was denied nothing
abbrev pub is_granted : Option Running → Bool
is_granted None = false
is_granted (Some running) = is_none running.denied

-- whether the files couldn't be reached
abbrev pub has_failed : Option Refusal → Bool
has_failed None = false
has_failed (Some refusal) = elim refusal.why [ Denied ↦ false | Fault ↦ true | Memory ↦ true ]

-- only the seat's own events were added, and no claim among them; the opening and what other seats run are as they were
pub record IsFromSeat {S : Type 0} (seat : ℕ) (old new : BoardState S) : Type 0 where
  pub opening : new.opening ≡ old.opening
  pub events : List CoreEvent
  pub adds : new.history ≡ old.history ++ events
  pub own : All (λ event. seat_of event ≡ seat) events
  pub none_claimed : claims events ≡ []
  pub others : (other : ℕ) → other ≢ seat → (state new).seats other ≡ (state old).seats other

-- the command of a seat was ended or left: nothing runs there any more, and nothing is stopped for a runner, unless it was
pub record IsLeft {S : Type 0} (seat : ℕ) (old new : BoardState S) : Type 0 where
  pub from : IsFromSeat seat old new
  pub ends : (state new).seats seat ≡ None
  pub never_run : (state old).stopped ≡ None → (state new).stopped ≢ Some Run

-- the site's count of faults is what it was, unless all is stopped for its failure
abbrev pub KeepsCount : {S : Type 0} → Site S → BoardState S → BoardState S → Type 0
KeepsCount site old new = (state new).stopped ≢ Some Failed → site.faults new.site ≡ site.faults old.site

-- so it is where nothing was stopped before: the first cause of a stop stays, whatever fails then
abbrev pub IsSteady : {S : Type 0} → Site S → BoardState S → BoardState S → Type 0
IsSteady site old new = (state old).stopped ≡ None → KeepsCount site old new

-- what a view has refused, as contracts see it
abbrev pub refusal_of : Option Refused → Option Refusal
refusal_of refused = option_map (λ (it : Refused). record { text = it.text.value; why = it.why }) refused

-- what a view answers by what the board replied
abbrev pub answer_by : Result Asked BoardFault → Result Answer ViewFailed
answer_by (Ok (reply_by.Content content)) = Ok (Holds content)
answer_by (Ok reply_by.Absent) = Ok Nothing
answer_by (Ok (reply_by.Denied verdict)) = Err Denied
answer_by (Err fault_by.Memory) = Err Memory
answer_by (Err fault) = Err Fault

-- what its command is told then of a text
abbrev pub told_by : List ℕ → Result Asked BoardFault → Asks
told_by text (Ok (reply_by.Content content)) = (text, Holds content) ∷ []
told_by text (Ok reply_by.Absent) = (text, Nothing) ∷ []
told_by text (Ok (reply_by.Denied verdict)) = []
told_by text (Err fault) = []

-- and what the view refuses: want of memory is no refusal
abbrev pub refused_by : List ℕ → Result Asked BoardFault → Option Refusal
refused_by text (Ok (reply_by.Content content)) = None
refused_by text (Ok reply_by.Absent) = None
refused_by text (Ok (reply_by.Denied verdict)) = Some (record { text = text; why = Denied })
refused_by text (Err fault_by.Memory) = None
refused_by text (Err fault) = Some (record { text = text; why = Fault })

-- a command was denied a text, which its view refused so
pub record IsDenial (refusal : Option Refusal) (denied : Option (List ℕ × Verdict)) : Type 0 where
  pub text : List ℕ
  pub verdict : Verdict
  pub refused : refusal ≡ Some (record { text = text; why = Denied })
  pub is : denied ≡ Some (text, verdict)

-- from one state of a board to another at most the seat's command came on. Once a text was refused nothing more happens: where the
-- files couldn't be reached the seat runs nothing any more, and else nothing was stopped; nothing is stopped for a runner
pub record KeepsSeat {S : Type 0} (site : Site S) (seat : ℕ) (old : BoardState S) (was : Option Refusal) (new : BoardState S) (is : Option Refusal) : Type 0 where
  pub from : IsFromSeat seat old new
  pub known : IsTrue site.tells → site.known new.site ≡ site.known old.site
  pub stays : (was ≡ None) ⊎ ((is ≡ was) × (new ≡ old))
  pub going : has_failed is ≡ false → (state new).stopped ≡ (state old).stopped
  pub left : has_failed is ≡ true → has_failed was ≡ false → (state new).seats seat ≡ None
  pub never_run : (state new).stopped ≡ Some Run → (state old).stopped ≡ Some Run
  pub steady : IsSteady site old new

-- the command that a seat ran asked just this more, and was answered so; it was denied just what its view refused since
pub record HasAsked {S : Type 0} (site : Site S) (seat : ℕ) (running : Running) (was : Option Refusal) (asks : Asks) (new : BoardState S) (is : Option Refusal) : Type 0 where
  pub now : Running
  pub more : List (List ℕ × Option Stamp)
  pub runs : (state new).seats seat ≡ Some now
  pub same : now.rule ≡ running.rule
  pub asked : now.asks ≡ running.asks ++ more
  pub stamps : AreStamped more asks
  pub known : IsTrue site.tells → AreKnown (site.known new.site) asks
  pub denied : ((is ≡ was) × (now.denied ≡ running.denied)) ⊎ IsDenial is now.denied

-- its command came on by these asks, unless the files couldn't be reached
pub record CameBy {S : Type 0} (site : Site S) (seat : ℕ) (old : BoardState S) (was : Option Refusal) (asks : Asks) (new : BoardState S) (is : Option Refusal) : Type 0 where
  pub keeps : KeepsSeat site seat old was new is
  pub asked : has_failed is ≡ false → (running : Running) → (state old).seats seat ≡ Some running → HasAsked site seat running was asks new is

-- what the run of a command leaves that seat 0 began, by its answer: a text was denied to it, as its runner means to ask it, or the
-- files couldn't be reached, and it runs nothing any more; else nothing is stopped
pub record Performs {S R A : Type 0} (site : Site S) (runner : Runner R) (old : BoardState S) (result : Result A RunFailed) (new : BoardState S) : Type 0 where
  pub from : IsFromSeat 0 old new
  pub denied : result ≡ Err WasDenied → MeansDenied site runner new 0
  pub view : result ≡ Err ByView → (state new).seats 0 ≡ None
  pub going : result ≢ Err ByView → (state new).stopped ≡ None
  pub never_run : (state new).stopped ≢ Some Run
  pub steady : IsSteady site old new
