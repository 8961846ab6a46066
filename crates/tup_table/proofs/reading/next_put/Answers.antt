use Rattle.tup_table.proofs.Fronts.{no_put_value}
use Rattle.tup_table.proofs.reading.next_put.Goals as goal

pub returns-in_err-value : goal.returns-in_err-value
returns-in_err-value c = rw c.from_residual-in_err-value.ensures (no_put_value c.args.reader.now c.in_ok-key.key.now c.short.new.self c.in_ok-key.ensures c.in_err-value.ensures)
