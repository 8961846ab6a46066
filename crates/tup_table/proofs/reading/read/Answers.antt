use Rattle.std.proofs.Common.{Ok, Err, inr, sym, subst}
use Rattle.std.proofs.lemmas.Result.{err_from_is_err_and}
use Rattle.tup_table.specs.Reading.{ReadsAs}
use Rattle.tup_table.specs.declared.opened.Opened.{Opened}
use Rattle.tup_table.proofs.Stores.{finds_reads, refused_reads, only_reading}
use Rattle.tup_table.proofs.reading.read.Goals as goal

pub returns-in_err-found-clause-reads : goal.returns-in_err-found-clause-reads
returns-in_err-found-clause-reads c =
    let p = err_from_is_err_and c.from_residual.result c.from_residual.ensures.1 in
    rw (p.1, p.2) (refused_reads c.args.bytes.now c.in_err-found.field-0.0 c.in_err-found.ensures)

pub returns-in_err-found-clause-only : goal.returns-in_err-found-clause-only
returns-in_err-found-clause-only c =
    let p = err_from_is_err_and c.from_residual.result c.from_residual.ensures.1 in
    let refused = refused_reads c.args.bytes.now c.in_err-found.field-0.0 c.in_err-found.ensures in
    rw (p.1, p.2) (λ answer reads. only_reading c.args.bytes.now (Err c.in_err-found.field-0.0) answer refused reads)

pub returns-clause-reads : goal.returns-clause-reads
returns-clause-reads c =
    inr
    (subst (λ (o : Opened). ReadsAs c.args.bytes.now (Ok o)) (sym c.opened.ensures) (finds_reads c.args.bytes.now c.in_ok-found.found c.in_ok-found.ensures))

pub returns-clause-only : goal.returns-clause-only
returns-clause-only c = λ answer reads.
    only_reading c.args.bytes.now (Ok c.opened.result) answer
    (inr
    (subst (λ (o : Opened). ReadsAs c.args.bytes.now (Ok o)) (sym c.opened.ensures) (finds_reads c.args.bytes.now c.in_ok-found.found c.in_ok-found.ensures))) reads
