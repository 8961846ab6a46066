use Rattle.tup_closure.proofs.Asked.{asked_more, asked_of_none}
use Rattle.tup_closure.proofs.Growing.{grows_as, grows_nothing, grows_on}
use Rattle.tup_rule_diff.proofs.running.push_readers.Goals as goal

pub loop-path-init : goal.loop-path-init
loop-path-init c = grows_nothing (asked_of_none c.args.led.now)

pub loop-path-preserved : goal.loop-path-preserved
loop-path-preserved c =
    let led = c.args.led.now in
    let paths = c.args.paths.now in
    let at = c.loop-path.path-index in
    let path = c.path-item.result in
    grows_as (λ n. (asked_more led n paths at path path c.loop-path-test.true c.path-item.is).0) (λ n. (asked_more led n paths at path path c.loop-path-test.true c.path-item.is).1)
    (grows_on c.loop-path.invariant c.in_ok-push_readers_of.ensures.readers)
