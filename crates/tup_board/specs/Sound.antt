-- What holds of a board at every moment (own).
use Rattle.std.specs.Prelude.{◌≡◌, ℕ, ◌≤◌, ◌<◌, ◌⊎◌, ◌++◌, true, None, Some, IsTrue, is_none}
use Rattle.std.specs.FinMap as finite
use Rattle.std.specs.Option.{option_map}
use Rattle.tup_path.specs.Count.{Rose}
use Rattle.tup_path.specs.Name.{Names}
use Rattle.tup_stamp.specs.Stamp.{stamp}
use Rattle.tup_site.specs.Cause.{most_bytes}
use Rattle.tup_site.specs.Known.{Keeps}
use Rattle.tup_site.specs.World.{World}
use Rattle.tup_site.specs.declared.site.Site.{Ghosts as Site}
use Rattle.tup_runner.specs.declared.runner.Runner.{Ghosts as Runner}
use Rattle.tup_record.specs.declared.run.RunRecord.{RunRecord}
use Rattle.tup_graph.specs.Graph.{GraphState, is_flagged}
use Rattle.tup_stored_graph.specs.Held.{is_fresh, StandsFor}
use Rattle.tup_core.specs.declared.event.Cause.{Cause}
use Rattle.tup_core.specs.Honest.{IsHonest, EndsHonestly}
use Rattle.tup_core.specs.Run.{IsRun}
use Rattle.tup_rule_outputs.specs.Lost.{Lost}
use Rattle.tup_board.specs.Board.{BoardState, plan_of, first_graph, start, state, with_history}
use Rattle.tup_rule_outputs.specs.declared.fault.BoardFault.{BoardFault}
use Rattle.tup_rule_outputs.specs.declared.fault.BoardFault.TheVariants.{Site as ByVisit, TooLarge, Full, Memory}
use Rattle.tup_board.specs.Cause.{IsTrueCause, HasLargeFile, HasNoRoom, stops_by}
use Rattle.tup_board.specs.Come.{IsPresent}
use Rattle.tup_board.specs.Ends.{CouldEnd}
use Rattle.tup_board.specs.Images.{LeavesImages, IsImageOver, StandsUnmade}
use Rattle.tup_board.specs.Outputs.{AreApart, IsPlanOf, IsPending}

-- the stamps that a graph has seen are those of the tree
abbrev pub HasSeen : {S : Type 0} → Site S → BoardState S → Type 0
HasSeen site board = (path : Names) → finite.get (first_graph board).seen path ≡ option_map stamp (finite.get (site.world board.opening.site).tree path)

-- what a board may be made of: a fresh graph that stands for the site's store and has seen its files, and a plan of that
-- graph whose outputs may be made
pub record IsOpening {S : Type 0} (site : Site S) (board : BoardState S) : Type 0 where
  pub fresh : IsTrue (is_fresh board.opening.graph)
  pub stands : IsTrue site.tells → StandsFor site.world site.moment site.left_since board.opening.graph board.opening.site
  pub seen : IsTrue site.tells → HasSeen site board
  pub plan : IsPlanOf (first_graph board) (plan_of board)
  pub apart : AreApart (plan_of board) (first_graph board)

-- what a crash since the board was made may leave
abbrev pub Since : {S : Type 0} → Site S → BoardState S → World → Type 0
Since site board w = site.left_since board.site (site.moment board.opening.site) w

-- what one right before that might have left
abbrev pub Before : {S : Type 0} → Site S → BoardState S → World → Type 0
Before site board w = site.left_since board.opening.site (site.moment board.opening.site) w

-- a rule that is flagged in a graph is still pending
abbrev pub FlagsPending : {S : Type 0} → BoardState S → GraphState → Type 0
FlagsPending board g = (number : ℕ) → is_flagged g number ≡ true → (state board).pending number ≡ true

-- a lost commit was to keep a run that a command had come to, and that its runner means; its rule is still to be run; and
-- where it was lost by the site, that failed
pub record WasToHappen {S R : Type 0} (site : Site S) (runner : Runner R) (board : BoardState S) (commit : Lost) : Type 0 where
  pub cause : IsTrue commit.by_site → Rose (site.faults board.opening.site) (site.faults board.site)
  pub pending : (state board).pending commit.rule ≡ true
  pub run : (run : RunRecord) → commit.run ≡ Some run → CouldEnd (plan_of board) (start board) board.history commit.rule run
      (IsTrue site.tells × IsTrue runner.tells) (EndsHonestly runner.next (site.known board.site))
  -- what a crash from then on may leave is an image, and by its graph what isn't made yet is unsure, or stands at present as it did
  -- at the opening; and a rule that isn't pending any more isn't flagged there
  pub torn : IsTrue site.tells → (w : World) → site.left_since board.site (site.moment board.site) w
      → (v : World) × Before site board v × (g : GraphState) × IsImageOver board v w g × StandsUnmade board (site.world board.opening.site) (site.world board.site) g × FlagsPending board g

-- a world is an image over one that a crash right before that might have left
abbrev pub IsImage : {S : Type 0} → Site S → BoardState S → World → Type 0
IsImage site board w = (v : World) × Before site board v × (g : GraphState) × IsImageOver board v w g

-- a cause is true of a board on whose site runners work whose commands mean this
abbrev pub IsTrueNow : {S R : Type 0} → Site S → Runner R → BoardState S → Cause → Type 0
IsTrueNow site runner board cause =
    IsTrueCause board (site.faults board.opening.site) (site.faults board.site) site.tells (site.world board.site) (Since site board)
    (IsTrue site.tells × IsTrue runner.tells) (EndsHonestly runner.next (site.known board.site)) cause

-- what holds of a board at every moment
pub record IsSound {S R : Type 0} (site : Site S) (runner : Runner R) (board : BoardState S) : Type 0 where
  pub opening : IsOpening site board
  -- its history is a run of the core from its opening, in which each command did what its runner means
  pub run : IsRun (plan_of board) (start board) board.history
  pub honest : IsTrue site.tells → IsTrue runner.tells → IsHonest runner.next (site.known board.site) (plan_of board) (start board) board.history
  -- beside the outputs of pending rules the tree has the core's files
  pub files : IsTrue site.tells → (path : Names) → (IsPending (plan_of board) (state board) path → ⊥)
      → option_map stamp (finite.get (site.world board.site).tree path) ≡ (state board).files path
  -- the graph stands for the store, and has come as far as the history, unless a commit was lost
  pub fresh : is_fresh board.graph ≡ is_none board.lost
  pub stands : IsTrue site.tells → board.lost ≡ None → StandsFor site.world site.moment site.left_since board.graph board.site
  pub present : board.lost ≡ None → IsPresent board board.graph.nodes
  pub lost : (commit : Lost) → board.lost ≡ Some commit → WasToHappen site runner board commit
  -- of each rule by itself there is what was, or what its good end leaves: now, and whenever a crash comes
  pub now : IsTrue site.tells → (g : GraphState) × IsImageOver board (site.world board.opening.site) (site.world board.site) g
  pub images : IsTrue site.tells → LeavesImages board (Before site board) (Since site board)
  -- and what a crash since an earlier moment may leave, one before the board was made might have left, or it is such an image
  pub since : IsTrue site.tells → (t : ℕ) (w : World) → t ≤ site.moment board.opening.site → site.left_since board.site t w
      → site.left_since board.opening.site t w ⊎ IsImage site board w
  -- the first cause of a stop is true
  pub cause : (cause : Cause) → (state board).stopped ≡ Some cause → IsTrueNow site runner board cause
  -- the site's moment, its count of faults, and the contents that it knows only grow
  pub counted : site.faults board.opening.site ≤ site.faults board.site
  pub later : IsTrue site.tells → site.moment board.opening.site ≤ site.moment board.site
  pub known : IsTrue site.tells → Keeps (site.known board.opening.site) (site.known board.site)

-- a refusal at a seat is true of a board, as the cause of a stop
abbrev pub IsTrueFault : {S R : Type 0} → Site S → Runner R → BoardState S → ℕ → BoardFault → Type 0
IsTrueFault site runner it seat ByVisit = Rose (site.faults it.opening.site) (site.faults it.site)
IsTrueFault site runner it seat (TooLarge bytes) = (most_bytes < bytes) × (IsTrue site.tells → HasLargeFile it (site.world it.site) bytes)
IsTrueFault site runner it seat Full = IsTrue site.tells → (w : World) × Since site it w
    × HasNoRoom (with_history it (it.history ++ stops_by seat Full)) w.store (IsTrue site.tells × IsTrue runner.tells) (EndsHonestly runner.next (site.known it.site))
IsTrueFault site runner it seat Memory = Unit {0}
