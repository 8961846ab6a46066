use Rattle.std.proofs.Common.{◌<◌, ℕ, arith}
use Rattle.tup_core.proofs.LinksLaws.{lists_up_more, lists_up}
use Rattle.tup_core.proofs.WalkLaws.{list_at}
use Rattle.tup_core.proofs.links.are_up.Goals as goal

none : (n : ℕ) → n < 0 → ⊥
none n below = omega arith

pub loop-list-init : goal.loop-list-init
loop-list-init c = λ other at below. absurd (none other below)

pub loop-list-preserved : goal.loop-list-preserved
loop-list-preserved c =
    lists_up_more c.args.lists.now c.args.flags.now c.loop-list.list-index c.as_slice.result.now c.loop-list-test.true
    (list_at c.args.lists.now c.loop-list.list-index c.list-item.result c.as_slice.result.now c.loop-list-test.true c.as_slice.ensures c.list-item.is) (c.are_all_up.ensures c.if-not-are_all_up.false) c.loop-list.invariant

pub returns : goal.returns
returns c = λ _. lists_up c.args.lists.now c.args.flags.now c.loop-list.list-index (omega arith) c.loop-list.invariant
