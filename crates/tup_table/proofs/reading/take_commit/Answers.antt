use Rattle.std.proofs.Common.{rules}
use Rattle.std.proofs.lemmas.Result.{err_from_is_err_and}
use Rattle.tup_table.specs.Front.{Front}
use Rattle.tup_table.specs.Store.{sized, IsSized}
use Rattle.tup_table.proofs.Fronts.{commit_refused}
use Rattle.tup_table.proofs.reading.take_commit.Goals as goal

pub returns-in_err-take_changes : goal.returns-in_err-take_changes
returns-in_err-take_changes c =
    let p = err_from_is_err_and c.from_residual.result c.from_residual.ensures.1 in
    let front : Front (IsSized 4) (sized 4) c.args.block.now c.in-Some.payload.now c.long.new.self = search rules in
    rw (p.1, p.2) (commit_refused c.args.gate c.args.block.now c.in-Some.payload.now c.long.new.self c.in_err-take_changes.field-0.0 front c.in_err-take_changes.ensures)
