use Rattle.std.proofs.Common.{refl}
use Rattle.std.proofs.lemmas.Result.{err_from_is_err_and}
use Rattle.tup_access.proofs.Writes.{own_more, write_refused}
use Rattle.tup_access.proofs.judging.last_writes.Goals as goal

pub returns-in_err-path-clause-err : goal.returns-in_err-path-clause-err
returns-in_err-path-clause-err c =
    let p = err_from_is_err_and c.from_residual-in_err-path.result c.from_residual-in_err-path.ensures.1 in
    rw (p.1, p.2) (write_refused c.args.rule.now c.args.writes.now c.loop-text.text-index c.loop-text-item.result c.in_err-path.field-0.0 c.loop-text.invariant.own c.loop-text-test.true c.loop-text-item.is c.in_err-path.ensures.err)

pub loop-text-preserved : goal.loop-text-preserved
loop-text-preserved c =
    own_more c.args.rule.now c.args.writes.now c.loop-text.text-index c.loop-text-item.result c.in_ok-path.path _ c.loop-text.last _ c.loop-text.invariant c.loop-text-test.true c.loop-text-item.is
    c.in_ok-path.ensures.ok c.in_ok-insert.ensures.updates.0 refl
