-- A board as what lies under a lock (own).
use Rattle.std.specs.Prelude.{◌≡◌, ℕ, Bool, List, None, IsTrue}
use Rattle.std.specs.Coded.{Coded-set, coded_ℕ, coded_option, ×_prop}
use Rattle.tup_path.specs.Name.{Content}
use Rattle.tup_site.specs.Known.{knows}
use Rattle.tup_site.specs.declared.site.Site.{Ghosts as Site}
use Rattle.tup_core.specs.contracts.event.Cause as of_cause
use Rattle.tup_core.specs.declared.event.CoreEvent.{CoreEvent}
use Rattle.tup_board.specs.Board.{BoardState, plan_of, seat_of, state}
use Rattle.tup_board.specs.Calls.{opened_as}
use Rattle.tup_board.specs.Entries.{entries_at}
use Rattle.tup_lock.specs.declared.logged.Logged.{Ghosts as Log}
use Rattle.tup_lock.specs.declared.seat.Seat.{Seat}
use Rattle.tup_lock.specs.Held.{log_of}

-- what it was when nothing had happened
abbrev pub board_origin : {S : Type 0} → BoardState S → BoardState S
board_origin board = opened_as board.opening.plan board.opening.graph board.opening.site

-- all that happened on it
abbrev pub board_history : {S : Type 0} → BoardState S → List CoreEvent
board_history board = board.history

-- a content is known to its site, where that tells
abbrev pub board_knows : {S : Type 0} → Bool → (S → List Content) → BoardState S → Content → Type 0
board_knows tells known board content = IsTrue tells × IsTrue (knows (known board.site) content)

-- nothing was stopped yet, and its site has counted so many faults
abbrev pub board_stood : {S : Type 0} → (S → ℕ) → BoardState S → ℕ → Type 0
board_stood faults board count = ((state board).stopped ≡ None) × (faults board.site ≡ count)

-- that is a fact: there is at most one proof of it
pub board_once : {S : Type 0} (faults : S → ℕ) (board : BoardState S) (count : ℕ) → IsProp (board_stood faults board count)
board_once faults board count = ×_prop (Coded-set (coded_option of_cause.the_row.coded) (state board).stopped None) (Coded-set coded_ℕ (faults board.site) count)

-- a board with all that happened on it
abbrev pub board_log : {S : Type 0} → Site S → Log (BoardState S) CoreEvent
board_log site = log_of seat_of board_history board_origin (board_knows site.tells site.known) (board_stood site.faults)

-- the same, by what its site tells
abbrev pub board_log_by : {S : Type 0} → Bool → (S → List Content) → (S → ℕ) → Log (BoardState S) CoreEvent
board_log_by tells known faults = log_of seat_of board_history board_origin (board_knows tells known) (board_stood faults)

-- the entries of a seat, as it left the board
abbrev pub entries_by : {S : Type 0} {log : Log (BoardState S) CoreEvent} → Seat (BoardState S) CoreEvent log → List CoreEvent
entries_by seat = entries_at seat.number seat.last.value.history

-- a seat has the number that it had, and its board the plan
abbrev pub IsStill : {S : Type 0} {log : Log (BoardState S) CoreEvent} → Seat (BoardState S) CoreEvent log → Seat (BoardState S) CoreEvent log → Type 0
IsStill old new = (new.number ≡ old.number) × (plan_of new.last.value ≡ plan_of old.last.value)
