use Rattle.std.proofs.Common.{◌≡◌, Err, map, arith}
use Rattle.tup_link.specs.Groups.{listed}
use Rattle.tup_link.specs.Linked.{rule_of}
use Rattle.tup_link.proofs.Together.{twice_told, twice_none}
use Rattle.tup_link.proofs.linking.ruled.Goals as goal

pub returns-in_err-no_repeat-clause-fault : goal.returns-in_err-no_repeat-clause-fault
returns-in_err-no_repeat-clause-fault c =
    let made = map (rule_of (listed c.args.groups.now)) c.args.all.now in
    let is : c.from_residual-in_err-no_repeat.result ≡ Err c.in_err-no_repeat.field-0.0 = grind arith in
    rw is (twice_told c.args.all.now made c.in_ok-rules.rules c.as_slice.result.now _ c.in_ok-rules.ensures.rules c.as_slice.ensures c.in_ok-rules.ensures.fault c.in_err-no_repeat.ensures)

pub returns-clause-fault : goal.returns-clause-fault
returns-clause-fault c =
    let made = map (rule_of (listed c.args.groups.now)) c.args.all.now in
    twice_none c.args.all.now made c.in_ok-rules.rules c.as_slice.result.now c.in_ok-rules.ensures.rules c.as_slice.ensures c.in_ok-rules.ensures.fault c.in_ok-no_repeat.ensures
