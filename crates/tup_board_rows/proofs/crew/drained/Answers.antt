use Rattle.std.proofs.Common.{List, None, sym, ap, ◌∙◌}
use Rattle.tup_core.specs.declared.event.CoreEvent.{CoreEvent}
use Rattle.tup_board.specs.Board.{plan_of, start}
use Rattle.tup_board.specs.Entries.{entries_at, runs_after}
use Rattle.tup_board.proofs.EntriesAt.{runs_are}
use Rattle.tup_board_rows.proofs.crew.drained.Goals as goal

pub drain-drained-requires-clause-none_runs : goal.drain-drained-requires-clause-none_runs
drain-drained-requires-clause-none_runs c = λ seat.
    let board = c.args.board in
    sym (runs_are seat (plan_of board) board.history (start board)) ∙ ap (λ (events : List CoreEvent). runs_after None (entries_at seat events)) c.requires.none
