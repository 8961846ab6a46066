use Rattle.std.proofs.Common.{◌≡◌, ℕ, List, Option, sym, ap, ◌∙◌, subst}
use Rattle.std.specs.Option.{option_copied}
use Rattle.std.proofs.lemmas.Slice.Eq.{slice_eq-Decides}
use Rattle.tup_stamp.specs.declared.Stamp.{Stamp}
use Rattle.tup_core.specs.declared.running.Running.{Running}
use Rattle.tup_board.specs.Board.{course_of}
use Rattle.tup_board.specs.Calls.{AreStamped}
use Rattle.tup_board_rows.proofs.Going.{running_is}
use Rattle.tup_board_rows.proofs.Told.{ask_decides}
use Rattle.tup_board_rows.proofs.seat.is_over_asks.Goals as goal

pub returns-in-Some : goal.returns-in-Some
returns-in-Some c = λ is it.
    let running = c.in-Some.running.now in
    let stamped = c.in_ok-stamped.stamped in
    let same : it.running ≡ running =
    running_is (course_of c.args.board.now) c.args.seat running (sym c.running.ensures ∙ ap option_copied c.in-Some.is) it in
    let equal : running.asks ≡ stamped = (slice_eq-Decides ask_decides running.asks stamped c.eq.result c.eq.ensures).0 is in
    subst (λ (asks : List (List ℕ × Option Stamp)). AreStamped asks c.args.told.now)
    (sym (ap (λ (r : Running). r.asks) same ∙ equal)) c.in_ok-stamped.ensures
