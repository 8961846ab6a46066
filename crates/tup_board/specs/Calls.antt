-- What each call of a board leaves, by its answer (own). All that happens to the core is told by the events that the call
-- adds to the history.
-- A claim, the end of a denied command and a stop are one call of the course each; of their promise the board says
-- only that all else is as it was.
use Rattle.std.specs.Prelude.{◌≡◌, ◌≢◌, ◌⊎◌, ℕ, ◌<◌, true, false, List, [], ◌∷◌, ◌++◌, length, Option, None, Some, IsSome, Result, Ok, Err, Contains, map, filter_map, option_map, slice_get, take, ◌-◌, All, IsTrue}
use Rattle.std.specs.FinMap as finite
use Rattle.tup_path.specs.Count.{Rose}
use Rattle.tup_path.specs.Name.{Names, Content}
use Rattle.tup_path.specs.Tree.{Tree}
use Rattle.tup_stamp.specs.declared.Stamp.{Stamp}
use Rattle.tup_stamp.specs.Stamp.{stamp}
use Rattle.tup_site.specs.Cause.{IsTooLarge, most_bytes}
use Rattle.tup_site.specs.Crash.{GoesOn as GoesOnFrom, NoStep}
use Rattle.tup_site.specs.Known.{Keeps}
use Rattle.tup_site.specs.declared.site.Site.{Ghosts as Site}
use Rattle.tup_runner.specs.declared.runner.Runner.{Ghosts as Runner}
use Rattle.tup_rule.specs.declared.rule.Rule.{Rule}
use Rattle.tup_rule.specs.Rule.{writes}
use Rattle.tup_runner.specs.Next.{Asks as Answered}
use Rattle.tup_runner.specs.declared.step.Answer.{Answer}
use Rattle.tup_runner.specs.declared.step.Answer.TheVariants.{Content as Holds, Absent as Nothing}
use Rattle.tup_runner.specs.declared.step.Ended.{Ended}
use Rattle.tup_access.specs.Access.{access}
use Rattle.tup_access.specs.Judge.{judge, good}
use Rattle.tup_access.specs.declared.verdict.Access.TheVariants.{Yes}
use Rattle.tup_access.specs.declared.verdict.Verdict.{Verdict}
use Rattle.tup_access.specs.declared.verdict.Verdict.TheVariants.{Good}
use Rattle.tup_record.specs.declared.run.RunRecord.{RunRecord}
use Rattle.tup_stored_graph.specs.Held.{Held}
use Rattle.tup_core.specs.declared.event.Cause.{Cause}
use Rattle.tup_core.specs.declared.event.Cause.TheVariants.{Bad, Run, Memory as StoppedByMemory}
use Rattle.tup_core.specs.declared.event.CoreEvent.{CoreEvent}
use Rattle.tup_core.specs.declared.event.CoreEvent.TheVariants.{Claim, Ask, Deny, Finish}
use Rattle.tup_core.specs.Honest.{EndsHonestly, stamped}
use Rattle.tup_core.specs.declared.plan.Plan.{Plan}
use Rattle.tup_core.specs.Kept.{Kept}
use Rattle.tup_core.specs.Planned.{IsPlanned, clean_of}
use Rattle.tup_clean.specs.Clean.{succeeds}
use Rattle.tup_core.specs.Run.{claims}
use Rattle.tup_core.specs.Step.{State, after}
use Rattle.tup_board.specs.declared.answers.Asked.{Asked}
use Rattle.tup_board.specs.declared.answers.Asked.TheVariants.{Content as Told, Absent, Denied}
use Rattle.tup_board.specs.declared.answers.Drained.{Drained}
use Rattle.tup_board.specs.declared.answers.Drained.TheVariants.{Done, Left}
use Rattle.tup_rule_outputs.specs.declared.fault.BoardFault.{BoardFault}
use Rattle.tup_rule_outputs.specs.declared.fault.BoardFault.TheVariants.{Site as ByVisit, TooLarge, Full, Memory}
use Rattle.tup_board.specs.Board.{BoardState, course_of, plan_of, seat_of, state, with_history}
use Rattle.tup_schedule.specs.Turn.{IsFirstReady}
use Rattle.tup_schedule.specs.Course.{RunsRule, GoesOn, WasDenied, NoneReady, NoneRuns}
use Rattle.tup_board.specs.Cause.{stops_by}
use Rattle.tup_board.specs.Ends.{IsRecordOf}
use Rattle.tup_rule_outputs.specs.Fault.{CountsFaults, lost_fault}
use Rattle.tup_rule_outputs.specs.Ground.{LacksRoomFor, Loses, MakeStep, WasTried}
use Rattle.tup_rule_outputs.specs.Lost.{Lost}

-- ---- new
-- a board of these on which nothing happened yet
abbrev pub opened_as : {S : Type 0} → Plan → Held → S → BoardState S
opened_as plan graph site = record { opening = record { plan = plan; graph = graph; site = site }; history = []; site = site; graph = graph; lost = None }

-- ---- finish_denied
-- its last ask was denied, and its runner means to ask that, where site and runner tell
pub record MeansDenied {S R : Type 0} (site : Site S) (runner : Runner R) (board : BoardState S) (seat : ℕ) : Type 0 where
  pub was : WasDenied (course_of board) seat
  pub means : IsTrue site.tells → IsTrue runner.tells
      → EndsHonestly runner.next (site.known board.site) was.it.rule was.it.running (Some (was.text, was.verdict)) was.verdict []

-- ---- ask
-- the command of a seat may ask for a text, which names this path, and that is no output of its own rule
pub record AsksFor {S : Type 0} (board : BoardState S) (seat : ℕ) (text : List ℕ) (path : Names) : Type 0 where
  pub it : RunsRule (course_of board) seat
  pub may : access (plan_of board).rules it.rule (length it.running.asks) text ≡ Yes path
  pub foreign : writes it.rule path ≡ false

-- it may ask for a text that names an output of its own rule
pub record AsksForOwn {S : Type 0} (board : BoardState S) (seat : ℕ) (text : List ℕ) : Type 0 where
  pub it : RunsRule (course_of board) seat
  pub path : Names
  pub may : access (plan_of board).rules it.rule (length it.running.asks) text ≡ Yes path
  pub own : writes it.rule path ≡ true

-- what a command is told of what was found
abbrev pub told_of : Option Content → Asked
told_of (Some content) = Told content
told_of None = Absent

-- what is answered for a path where the site tells its tree: the file there, or that it is too large, or none
abbrev pub IsToldOf : Tree → Names → Result Asked BoardFault → Type 0
IsToldOf tree path (Ok (Told content)) = finite.get tree path ≡ Some content
IsToldOf tree path (Ok Absent) = finite.get tree path ≡ None
IsToldOf tree path (Ok (Denied verdict)) = ⊥
IsToldOf tree path (Err (TooLarge bytes)) = IsTooLarge tree path bytes
IsToldOf tree path (Err fault) = Unit {0}

-- the events that an ask adds, by its answer. Which of them may happen the core says: an Ask that the command may make and
-- that is answered with the stamp of its files, a Deny that is the verdict on this text
abbrev pub ask_events : ℕ → List ℕ → Result Asked BoardFault → List CoreEvent
ask_events seat text (Ok (Told content)) = Ask seat text (Some (stamp content)) ∷ []
ask_events seat text (Ok Absent) = Ask seat text None ∷ []
ask_events seat text (Ok (Denied verdict)) = Deny seat text verdict ∷ []
ask_events seat text (Err fault) = stops_by seat fault

-- an ask adds these, and leaves graph and store
pub record IsAsked {S : Type 0} (seat : ℕ) (text : List ℕ) (old : BoardState S) (result : Result Asked BoardFault) (new : BoardState S) : Type 0 where
  pub adds : new ≡ record old { history = old.history ++ ask_events seat text result; site = new.site }
  pub never_full : result ≢ Err Full

-- only of a file that the command may ask for the content is told, and only such a one fails to be read, or is too large
abbrev pub HasAskedFor : {S : Type 0} → ℕ → List ℕ → BoardState S → Result Asked BoardFault → Type 0
HasAskedFor seat text old (Ok (Told content)) = (path : Names) × AsksFor old seat text path
HasAskedFor seat text old (Err ByVisit) = (path : Names) × AsksFor old seat text path
HasAskedFor seat text old (Err (TooLarge bytes)) = (most_bytes < bytes) × ((path : Names) × AsksFor old seat text path)
HasAskedFor seat text old result = Unit {0}

-- all that an ask does, by its answer
pub record Asks {S : Type 0} (site : Site S) (seat : ℕ) (text : List ℕ) (old : BoardState S) (result : Result Asked BoardFault) (new : BoardState S) : Type 0 where
  pub asked : IsAsked seat text old result new
  pub told : IsTrue site.tells → (path : Names) → AsksFor old seat text path → IsToldOf (site.world old.site).tree path result
  pub for_it : HasAskedFor seat text old result
  pub same : IsTrue site.tells → site.world new.site ≡ site.world old.site
  pub crash : IsTrue site.tells → GoesOnFrom site.moment site.left_since old.site new.site NoStep
  pub known : IsTrue site.tells → site.known new.site ≡ site.known old.site
  pub cause : CountsFaults (site.faults old.site) (site.faults new.site) None result

-- ---- finish
-- an answer has this stamp
abbrev pub IsStampOf : Option Stamp → Answer → Type 0
IsStampOf given (Holds content) = given ≡ Some (stamp content)
IsStampOf given Nothing = given ≡ None

-- asks with answers have these stamps
abbrev pub AreStamped : List (List ℕ × Option Stamp) → Answered → Type 0
AreStamped [] [] = Unit {0}
AreStamped (ask ∷ asks) (given ∷ more) = (ask.0 ≡ given.0) × IsStampOf ask.1 given.1 × AreStamped asks more
AreStamped [] (given ∷ more) = ⊥
AreStamped (ask ∷ asks) [] = ⊥

-- and their contents are known
abbrev pub AreKnown : List Content → Answered → Type 0
AreKnown known asks = (text : List ℕ) (content : Content) → Contains asks (text, Holds content) → Contains known content

-- a report on this command over these asks is one of what a seat runs
pub record IsReportOf {S : Type 0} (site : Site S) (board : BoardState S) (seat : ℕ) (dir : Names) (text : List ℕ) (asks : Answered) : Type 0 where
  pub it : GoesOn (course_of board) seat
  pub dir_is : dir ≡ it.it.rule.dir
  pub text_is : text ≡ it.it.rule.text
  pub asks_are : AreStamped it.it.running.asks asks
  pub known : IsTrue site.tells → AreKnown (site.known board.site) asks

-- how a command that ended so is judged at a seat, and the stamps of the files that it leaves
pub record IsJudgedAt {S : Type 0} (board : BoardState S) (seat : ℕ) (ended : Ended) (verdict : Verdict) (writes : List (Names × Stamp)) : Type 0 where
  pub it : RunsRule (course_of board) seat
  pub verdict_is : verdict ≡ (judge it.rule ended).verdict
  pub writes_are : writes ≡ map stamped (judge it.rule ended).files

-- the run of the command of a seat that ended so, as the store is to keep it
pub record IsRunAt {S : Type 0} (board : BoardState S) (seat : ℕ) (ended : Ended) (number : ℕ) (run : RunRecord) : Type 0 where
  pub kept : IsRecordOf (plan_of board) (state board) seat number run
  pub writes : run.writes ≡ map stamped (judge kept.rule ended).files

-- there is no room for it
abbrev pub LacksRoom : {S : Type 0} → BoardState S → ℕ → Ended → Type 0
LacksRoom board seat ended = (number : ℕ) × (run : RunRecord) × IsRunAt board seat ended number run × LacksRoomFor board.graph number run

-- the command of a seat that ended so is Good
abbrev pub IsGoodAt : {S : Type 0} → BoardState S → ℕ → Ended → Type 0
IsGoodAt board seat ended = (it : RunsRule (course_of board) seat) × ((judge it.rule ended).verdict ≡ Good)

-- the end of a command, by the answer: it is judged, and taken as Good only while no commit is lost and where there is room
abbrev pub Finishes : {S : Type 0} → ℕ → Ended → BoardState S → Result Verdict BoardFault → BoardState S → Type 0
Finishes seat ended old (Ok verdict) new =
    (writes : List (Names × Stamp)) × IsJudgedAt old seat ended verdict writes × (new.history ≡ old.history ++ Finish seat verdict writes ∷ [])
    × (new.lost ≡ old.lost) × (verdict ≡ Good → (old.lost ≡ None) × (LacksRoom old seat ended → ⊥))
Finishes seat ended old (Err ByVisit) new = (new.history ≡ old.history ++ stops_by seat ByVisit) × IsGoodAt old seat ended
Finishes seat ended old (Err Full) new = (new.history ≡ old.history ++ stops_by seat Full) × IsGoodAt old seat ended × LacksRoom old seat ended
Finishes seat ended old (Err Memory) new = new.history ≡ old.history
Finishes seat ended old (Err (TooLarge bytes)) new = ⊥

-- a commit that is lost by the end of a command is one of its run
abbrev pub MayLose : {S : Type 0} → ℕ → Ended → BoardState S → Result Verdict BoardFault → BoardState S → Type 0
MayLose seat ended old result new =
    (new.lost ≡ old.lost) ⊎ ((old.lost ≡ None) × (commit : Lost) × (new.lost ≡ Some commit) × (number : ℕ) × (run : RunRecord) × IsRunAt old seat ended number run × Loses number run result commit)

-- what the end of a Good command does to tree and store, and what a crash since it began may leave
pub record LeavesBeside {S : Type 0} (site : Site S) (seat : ℕ) (ended : Ended) (old : BoardState S) (result : Result Verdict BoardFault) (new : BoardState S) : Type 0 where
  pub number : ℕ
  pub run : RunRecord
  pub is : IsRunAt old seat ended number run
  pub now : MakeStep (WasTried run result new.lost) old.graph.nodes number run (judge is.kept.rule ended).files (site.world old.site) (site.world new.site)
  pub crash : GoesOnFrom site.moment site.left_since old.site new.site (MakeStep (WasTried run result new.lost) old.graph.nodes number run (judge is.kept.rule ended).files)

-- what the end of a command touches: of one that isn't Good nothing; and once a commit was lost of a Good one neither, which is refused
-- as that commit was
pub record Touches {S : Type 0} (site : Site S) (seat : ℕ) (ended : Ended) (old : BoardState S) (result : Result Verdict BoardFault) (new : BoardState S) : Type 0 where
  pub opening : new.opening ≡ old.opening
  pub bad : (IsGoodAt old seat ended → ⊥) → new ≡ with_history old new.history
  pub good : IsTrue site.tells → IsGoodAt old seat ended → LeavesBeside site seat ended old result new
  pub idle : (commit : Lost) → old.lost ≡ Some commit → IsGoodAt old seat ended
      → (new ≡ with_history old new.history) × ((result ≡ Err (lost_fault commit)) ⊎ (result ≡ Err Memory))

-- all that the end of a command does, by its answer
pub record Ends {S : Type 0} (site : Site S) (seat : ℕ) (ended : Ended) (old : BoardState S) (result : Result Verdict BoardFault) (new : BoardState S) : Type 0 where
  pub finishes : Finishes seat ended old result new
  pub lost : MayLose seat ended old result new
  pub touches : Touches site seat ended old result new
  pub known : IsTrue site.tells → Keeps (site.known old.site) (site.known new.site)
  pub cause : CountsFaults (site.faults old.site) (site.faults new.site) old.lost result

-- a verdict is the one on a command that ended so at a seat
abbrev pub IsVerdictAt : {S : Type 0} → BoardState S → ℕ → Ended → Verdict → Type 0
IsVerdictAt board seat ended verdict = (it : RunsRule (course_of board) seat) → verdict ≡ (judge it.rule ended).verdict

-- it is Good and leaves these files
abbrev pub AreFilesAt : {S : Type 0} → BoardState S → ℕ → Ended → List (Names × Content) → Type 0
AreFilesAt board seat ended files = (it : RunsRule (course_of board) seat) → judge it.rule ended ≡ good files

-- what the store is told of a Good end, and the history
pub record IsGoodEndAt {S : Type 0} (board : BoardState S) (seat : ℕ) (files : List (Names × Content)) (number : ℕ) (run : RunRecord) (event : CoreEvent) : Type 0 where
  pub kept : IsRecordOf (plan_of board) (state board) seat number run
  pub writes : run.writes ≡ map stamped files
  pub event_is : event ≡ Finish seat Good run.writes

-- ---- drain
-- what an update that is over came to
abbrev pub Drains : State → Drained → Type 0
Drains end Done = (end.stopped ≡ None) × ((number : ℕ) → end.bad number ≡ None)
Drains end (Left cause) = (end.stopped ≡ Some cause) ⊎ ((end.stopped ≡ None) × (cause ≡ Bad) × ((number : ℕ) × IsSome (end.bad number)))

-- where a board's opening was planned over what is kept of a project, the clean build of its sources succeeds, and the files are
-- those that it leaves
abbrev pub BuildsClean : {S R : Type 0} → Site S → Runner R → BoardState S → Kept → Tree → Type 0
BuildsClean site runner board kept tree =
    IsPlanned runner.next (site.known board.site) kept tree (plan_of board) (course_of board).files
    → (succeeds (clean_of runner.next kept tree (plan_of board)) ≡ true)
    × ((path : Names) → option_map stamp (finite.get (site.world board.site).tree path) ≡ option_map stamp (finite.get (clean_of runner.next kept tree (plan_of board)).tree path))

-- nothing goes on any more
abbrev pub IsOver : {S : Type 0} → BoardState S → Type 0
IsOver board = NoneRuns (course_of board) × (IsSome (state board).stopped ⊎ NoneReady (course_of board))

-- each claim among some events is of the first rule that is ready then
abbrev pub TakesFirst : Plan → State → List CoreEvent → Type 0
TakesFirst plan state [] = Unit {0}
TakesFirst plan state (Claim seat rule ∷ events) = IsFirstReady plan state rule × TakesFirst plan (after plan state (Claim seat rule)) events
TakesFirst plan state (event ∷ events) = TakesFirst plan (after plan state event) events

-- the command of a rule, in its folder
abbrev pub command_of : Rule → Names × List ℕ
command_of rule = (rule.dir, rule.text)

-- the commands of the rules that are claimed, in their order
abbrev pub commands : Plan → List CoreEvent → List (Names × List ℕ)
commands plan events = filter_map (λ number. option_map command_of (slice_get plan.rules number)) (claims events)

-- a runner ran the commands of the rules that were claimed; where an update is left for want of memory, perhaps not the last
abbrev pub RanAll : Plan → List CoreEvent → List (Names × List ℕ) → List (Names × List ℕ) → Drained → Type 0
RanAll plan events old new (Left StoppedByMemory) =
    (new ≡ old ++ commands plan events) ⊎ (new ≡ old ++ take (length (commands plan events) - 1) (commands plan events))
RanAll plan events old new result = new ≡ old ++ commands plan events

-- the runner failed where that is the first cause, unless it was before; it failed at no other answer
pub record HasRunCause (before : Option Cause) (was now : ℕ) (result : Drained) : Type 0 where
  pub run : result ≡ Left Run → (before ≡ Some Run) ⊎ Rose was now
  pub steady : result ≢ Left Run → now ≡ was

-- ---- one rule of a drain
-- seat 0 runs the rule of this number, whose command did nothing yet; nothing is stopped, and no other seat runs one
pub record StartsAlone {S : Type 0} (board : BoardState S) (number : ℕ) : Type 0 where
  pub rule : Rule
  pub placed : slice_get (plan_of board).rules number ≡ Some rule
  pub here : (state board).seats 0 ≡ Some (record { rule = number; asks = []; denied = None })
  pub alone : (other : ℕ) → other ≢ 0 → (state board).seats other ≡ None
  pub going : (state board).stopped ≡ None

-- it was run or left, all at seat 0: no seat runs one any more, and none was claimed
pub record RunsOne {S : Type 0} (old new : BoardState S) : Type 0 where
  pub opening : new.opening ≡ old.opening
  pub events : List CoreEvent
  pub adds : new.history ≡ old.history ++ events
  pub own : All (λ event. seat_of event ≡ 0) events
  pub none_claimed : claims events ≡ []
  pub none_runs : NoneRuns (course_of new)

-- its command was run; where all is stopped for want of memory, perhaps not
abbrev pub HasRun : Names × List ℕ → List (Names × List ℕ) → List (Names × List ℕ) → Option Cause → Type 0
HasRun command old new stopped = (new ≡ old ++ command ∷ []) ⊎ ((new ≡ old) × (stopped ≡ Some StoppedByMemory))

-- the runner's count rose just where all is stopped for that
pub record HasFailed (was now : ℕ) (stopped : Option Cause) : Type 0 where
  pub run : stopped ≡ Some Run → Rose was now
  pub steady : stopped ≢ Some Run → now ≡ was
