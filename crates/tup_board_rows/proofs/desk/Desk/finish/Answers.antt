use Rattle.std.proofs.lemmas.Bool.{false≢true}
use Rattle.tup_board_rows.proofs.desk.Desk.finish.Goals as goal

pub finish-ended-requires-clause-report : goal.finish-ended-requires-clause-report
finish-ended-requires-clause-report c = record {
  it = c.requires.runs;
  dir_is = c.requires.dir c.requires.runs.it;
  text_is = c.requires.text c.requires.runs.it;
  asks_are = c.requires.asks c.requires.runs.it;
  known = λ tells. absurd (false≢true tells);
}
