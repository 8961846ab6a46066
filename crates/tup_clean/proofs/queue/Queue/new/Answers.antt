use Rattle.std.proofs.Common.{◌≡◌, refl, subst, length, arith}
use Rattle.std.proofs.lemmas.Option.{slice_get_read}
use Rattle.tup_clean.specs.Queue.{IsFilled}
use Rattle.tup_clean.proofs.Queueing.{takes, filled_all}
use Rattle.tup_clean.proofs.queue.Queue.new.Goals as goal

pub add-requires : goal.add-requires
add-requires c = takes c.args.rules.now c.loop-rule.rule-index c.loop-rule.queue c.rule-item.result c.in_ok-makers.makers c.in_ok-makers.ensures c.loop-rule.invariant

pub loop-rule-preserved : goal.loop-rule-preserved
loop-rule-preserved c =
    c.in_ok-add.ensures c.args.rules.now c.loop-rule.rule-index c.in_ok-makers.ensures (slice_get_read c.args.rules.now _ c.loop-rule.rule-index c.rule-item.result refl c.loop-rule-test.true c.rule-item.is) c.loop-rule.invariant

pub returns : goal.returns
returns c =
    let all : c.loop-rule.rule-index ≡ length c.args.rules.now = omega arith in
    filled_all c.args.rules.now c.loop-rule.queue (subst (λ n. IsFilled c.args.rules.now n c.loop-rule.queue) all c.loop-rule.invariant)
