use Rattle.std.proofs.Common.{◌+◌, ℕ, ap}
use Rattle.std.proofs.lemmas.Result.{err_from_is_err_and}
use Rattle.tup_table.proofs.Stores.{area_more, area_refused}
use Rattle.tup_table.proofs.reading.read_area.Goals as goal

pub commits-preserved : goal.commits-preserved
commits-preserved c =
    let took = c.in_ok-rest.ensures in
    let done = c.passed-done.ensures in
    area_more c.args.start c.args.area.now c.commits.rest.now c.commits.entries c.commits.invariant (17 + c.passed-done.result) (c.args.start + c.passed-done.result) (ap (λ (n : ℕ). 17 + n) done) (ap (λ (n : ℕ). c.args.start + n) done)
    c.in-Some.block.now c.in-Some.ensures.0 took.0 c.in_ok-rest.rest.now c.take_commit.new.entries took.1 took.2

pub returns-in_err-rest : goal.returns-in_err-rest
returns-in_err-rest c =
    let p = err_from_is_err_and c.from_residual.result c.from_residual.ensures.1 in
    let done = c.passed-done.ensures in
    rw (p.1, p.2) (area_refused c.args.start c.args.area.now c.commits.rest.now c.commits.entries c.commits.invariant (17 + c.passed-done.result) (c.args.start + c.passed-done.result) (ap (λ (n : ℕ). 17 + n) done)
    (ap (λ (n : ℕ). c.args.start + n) done) c.in-Some.block.now c.in-Some.ensures.0 c.in-Some.ensures.1 c.in_err-rest.field-0.0 c.in_err-rest.ensures)
