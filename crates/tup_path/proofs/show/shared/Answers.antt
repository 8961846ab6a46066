use Rattle.std.proofs.Common.{arith}
use Rattle.tup_path.proofs.Shown.{shared_past}
use Rattle.tup_path.proofs.show.shared.Goals as goal

pub returns-else-count-right-clause-shared : goal.returns-else-count-right-clause-shared
returns-else-count-right-clause-shared c =
    let past = shared_past c.args.left.now c.args.right.now c.loop-count.count (omega arith) in
    omega (arith, past, c.loop-count.invariant.0)
