use Rattle.std.proofs.Common.{◌≡◌, ◌+◌, List, ℕ, length, sym, subst, arith}
use Rattle.tup_core.proofs.WaitingLaws.{AreFilled, filled_more}
use Rattle.tup_core.proofs.waiting.fill_waiters.Goals as goal

pub loop-at-preserved : goal.loop-at-preserved
loop-at-preserved c =
    let same : length c.waiters_of.new.seen ≡ length c.loop-at.seen = omega (arith, c.waiters_of.auto.seen) in
    subst (λ (l : List (List ℕ)). AreFilled c.args.readers.now c.args.reached.now c.args.entries.now (c.loop-at.at + 1) c.waiters_of.new.seen l) (sym c.in_ok-push.ensures.items)
    (filled_more c.args.readers.now c.args.reached.now c.args.entries.now c.loop-at.at c.loop-at.seen c.waiters_of.new.seen c.loop-at.waiters.items c.in_ok-waiters_of.field-0 c.loop-at.invariant same c.in_ok-waiters_of.ensures.down c.in_ok-waiters_of.ensures.waiters)
