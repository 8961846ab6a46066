use Rattle.std.proofs.Common.{◌<◌, ◌≤◌, ◌+◌, List, ℕ, take, ap, sym, ◌∙◌, subst, arith}
use Rattle.tup_clean.specs.Queue.{count_of}
use Rattle.tup_core.specs.Waiting.{total}
use Rattle.tup_core.proofs.WalkLaws.{list_at}
use Rattle.tup_core.proofs.WaitingLaws.{total_more, total_small}
use Rattle.tup_core.proofs.waiting.add_all.Goals as goal

pub add_each-requires-clause-within : goal.add_each-requires-clause-within
add_each-requires-clause-within c = λ k some.
    let is = list_at c.args.lists.now c.loop-at.at c.index-lists-at.result c.as_slice.result.now c.loop-at-test.true c.as_slice.ensures c.index-lists-at.is in
    let within = c.requires.within c.loop-at.at k (subst (λ (l : List ℕ). 0 < count_of k l) is some) in
    omega (arith, within, c.loop-at.auto.counts, c.requires.length)

pub add_each-requires-clause-fits : goal.add_each-requires-clause-fits
add_each-requires-clause-fits c = λ k.
    let is = list_at c.args.lists.now c.loop-at.at c.index-lists-at.result c.as_slice.result.now c.loop-at-test.true c.as_slice.ensures c.index-lists-at.is in
    let so_far = c.loop-at.invariant k in
    let small = total_small c.args.lists.now c.loop-at.at k c.requires.short (omega arith) in
    let one : count_of k c.as_slice.result.now ≤ 1 = subst (λ (l : List ℕ). count_of k l ≤ 1) (sym is) (c.requires.short c.loop-at.at k) in
    omega (arith, so_far, small, one)

pub loop-at-preserved : goal.loop-at-preserved
loop-at-preserved c = λ k.
    let is = list_at c.args.lists.now c.loop-at.at c.index-lists-at.result c.as_slice.result.now c.loop-at-test.true c.as_slice.ensures c.index-lists-at.is in
    c.add_each.ensures k ∙ ap (λ (n : ℕ). n + count_of k c.as_slice.result.now) (c.loop-at.invariant k) ∙ ap (λ (l : List ℕ). total (take c.loop-at.at c.args.lists.now) k + count_of k l) is ∙ sym (total_more c.args.lists.now c.loop-at.at k c.loop-at-test.true)
