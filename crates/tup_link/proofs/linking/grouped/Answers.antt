use Rattle.std.proofs.Common.{◌≡◌, Err, arith}
use Rattle.tup_link.proofs.Together.{group_told, grouped_rules, grouped_fault}
use Rattle.tup_link.proofs.linking.grouped.Goals as goal

pub returns-in_err-all_given-clause-fault : goal.returns-in_err-all_given-clause-fault
returns-in_err-all_given-clause-fault c =
    let is : c.from_residual-in_err-all_given.result ≡ Err c.in_err-all_given.field-0.0 = grind arith in
    rw is (group_told c.args.all.now c.in_ok-groups.groups c.in_ok-groups.ensures _ c.in_err-all_given.ensures)

pub returns-clause-rules : goal.returns-clause-rules
returns-clause-rules c = grouped_rules c.args.all.now c.in_ok-groups.groups c.in_ok-groups.ensures c.ruled.result c.ruled.ensures.rules

pub returns-clause-fault : goal.returns-clause-fault
returns-clause-fault c = grouped_fault c.args.all.now c.in_ok-groups.groups c.in_ok-groups.ensures c.ruled.result c.in_ok-all_given.ensures c.ruled.ensures.fault
