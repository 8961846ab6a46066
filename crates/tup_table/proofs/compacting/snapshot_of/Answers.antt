use Rattle.std.proofs.lemmas.Result.{err_from_is_err_and}
use Rattle.tup_table.proofs.Snapshots.{short_slice, snapshot_answer, snapshot_fault}
use Rattle.tup_table.proofs.compacting.snapshot_of.Goals as goal

pub read_area-requires : goal.read_area-requires
read_area-requires c = short_slice c.args.entries.now c.fit.ensures c.requires c.in_ok-area.area c.as_slice.result.now c.as_slice.ensures c.in_ok-area.ensures

pub returns-in_err-opened : goal.returns-in_err-opened
returns-in_err-opened c =
    let p = err_from_is_err_and c.from_residual-in_err-opened.result c.from_residual-in_err-opened.ensures.1 in
    rw (p.1, p.2) (snapshot_fault c.args.entries.now c.fit.ensures c.requires c.in_ok-area.area c.as_slice.result.now c.as_slice.ensures c.in_ok-area.ensures c.in_err-opened.field-0.0 c.in_err-opened.ensures)

pub returns : goal.returns
returns c =
    (c.in_ok-area.ensures, snapshot_answer c.args.entries.now c.fit.ensures c.requires c.in_ok-area.area c.as_slice.result.now c.as_slice.ensures c.in_ok-area.ensures c.in_ok-opened.opened c.in_ok-opened.ensures)
