use Rattle.std.proofs.Common.{arith}
use Rattle.tup_table.proofs.Readying.{live_some}
use Rattle.tup_table.proofs.table.Table.gate_for.Goals as goal

pub overflow_sub-result : goal.overflow_sub-result
overflow_sub-result c = omega (arith, c.live-live.ensures, live_some c.args.self.now.entries)
