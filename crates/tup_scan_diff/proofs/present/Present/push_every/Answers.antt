use Rattle.std.proofs.Common.{◌≡◌, length, arith}
use Rattle.tup_scan_diff.proofs.Looking.{every_looked, next_looked, none_below}
use Rattle.tup_scan_diff.proofs.present.Present.push_every.Goals as goal

pub loop-number-init : goal.loop-number-init
loop-number-init c = none_below c.args.self.now

pub loop-number-preserved : goal.loop-number-preserved
loop-number-preserved c = next_looked c.args.self.now c.loop-number.number c.loop-number.invariant c.in_ok-push_root.ensures.roots

pub returns-clause-roots : goal.returns-clause-roots
returns-clause-roots c =
    let count : c.loop-number.number ≡ length c.args.self.now.nodes.now.rules = omega (arith, c.in_ok-number-end.ensures.count) in
    every_looked c.args.self.now c.loop-number.number count c.loop-number.invariant
