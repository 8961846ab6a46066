-- What a crew leaves of a board (own).
use Rattle.std.specs.Prelude.{◌≡◌, ◌⊎◌, ◌<◌, ◌≤◌, ◌-◌, ℕ, List, ◌++◌, length, map, take, slice_index_or, None, All, Contains, IsTrue}
use Rattle.tup_path.specs.Count.{Rose}
use Rattle.tup_path.specs.Name.{Names}
use Rattle.tup_site.specs.declared.site.Site.{Ghosts as Site}
use Rattle.tup_runner.specs.declared.runner.Runner.{Ghosts as Runner}
use Rattle.tup_core.specs.declared.event.Cause.TheVariants.{Run, Memory}
use Rattle.tup_core.specs.declared.event.CoreEvent.{CoreEvent}
use Rattle.tup_core.specs.declared.event.CoreEvent.TheVariants.{Stop}
use Rattle.tup_core.specs.declared.plan.Plan.{Plan}
use Rattle.tup_schedule.specs.Course.{NoneRuns}
use Rattle.tup_board.specs.Board.{BoardState, course_of, seat_of, state}
use Rattle.tup_board.specs.Calls.{HasRunCause, RanAll, TakesFirst, commands}
use Rattle.tup_board.specs.Seat.{KeepsCount}
use Rattle.tup_board.specs.declared.answers.Drained.{Drained}
use Rattle.tup_board.specs.Entries.{entries_at}

-- a crew has a runner, and at most 16
abbrev pub IsCrew : {R : Type 0} → List R → Type 0
IsCrew {R} crew = (0 < length crew) × (length crew ≤ 16)

-- ---- the runners of a crew, each at the seat of its place
-- a runner ran the commands of the rules that its seat claimed; where that was stopped for want of memory, perhaps not the last
abbrev pub RanAt : Plan → ℕ → List CoreEvent → List (Names × List ℕ) → List (Names × List ℕ) → Type 0
RanAt plan seat history old new =
    (new ≡ old ++ commands plan (entries_at seat history))
    ⊎ (Contains history (Stop seat Memory) × (new ≡ old ++ take (length (commands plan (entries_at seat history)) - 1) (commands plan (entries_at seat history))))

-- so did each
abbrev pub CrewRan : {R : Type 0} → (R → List (Names × List ℕ)) → Plan → List CoreEvent → List R → List R → Type 0
CrewRan {R} ran plan history before now =
    (i : ℕ) (d : R) → i < length before → RanAt plan i history (ran (slice_index_or before i d)) (ran (slice_index_or now i d))

-- each failed at nothing whose seat was not stopped for it
abbrev pub CrewStood : {R : Type 0} → (R → ℕ) → List CoreEvent → List R → List R → Type 0
CrewStood {R} faults history before now =
    (i : ℕ) (d : R) → i < length before → (Contains history (Stop i Run) → ⊥) → faults (slice_index_or now i d) ≡ faults (slice_index_or before i d)

-- one has failed
abbrev pub OneFailed : {R : Type 0} → (R → ℕ) → List R → List R → Type 0
OneFailed {R} faults before now =
    (i : ℕ) × (i < length before) × ((d : R) → Rose (faults (slice_index_or before i d)) (faults (slice_index_or now i d)))

-- ---- while they work
-- a board on which nothing had happened, once each seat of a crew has left it
pub record Leaves {S R : Type 0} (site : Site S) (runner : Runner R) (plan : Plan) (old new : BoardState S) (before now : List R) : Type 0 where
  pub opening : new.opening ≡ old.opening
  pub none_runs : NoneRuns (course_of new)
  pub below : All (λ event. seat_of event < length before) new.history
  pub many : length now ≡ length before
  pub ran : IsTrue runner.tells_ran → CrewRan runner.ran plan new.history before now
  pub stood : CrewStood runner.faults new.history before now
  pub failed : (i : ℕ) (d : R) → i < length before → Contains new.history (Stop i Run) → Rose (runner.faults (slice_index_or before i d)) (runner.faults (slice_index_or now i d))
  pub steady : (state new).stopped ≡ None → site.faults new.site ≡ site.faults old.site

-- ---- once the board is drained
-- neither the site nor a runner failed at anything
abbrev pub NoneFailed : {S R : Type 0} → Site S → (R → ℕ) → BoardState S → BoardState S → List R → List R → Type 0
NoneFailed site faults old new before now = (site.faults new.site ≡ site.faults old.site) × (map faults now ≡ map faults before)

-- a crew of one drained a board on which nothing had happened as one runner does at seat 0
pub record IsAlone {S R : Type 0} (site : Site S) (runner : Runner R) (plan : Plan) (old new : BoardState S) (before now : List R) (drained : Drained) : Type 0 where
  pub ran : IsTrue runner.tells_ran → (d : R) → RanAll plan new.history (runner.ran (slice_index_or before 0 d)) (runner.ran (slice_index_or now 0 d)) drained
  pub own : All (λ event. seat_of event ≡ 0) new.history
  pub order : TakesFirst plan (state old) new.history
  pub cause : (d : R) → HasRunCause (state old).stopped (runner.faults (slice_index_or before 0 d)) (runner.faults (slice_index_or now 0 d)) drained
  pub steady : KeepsCount site old new
