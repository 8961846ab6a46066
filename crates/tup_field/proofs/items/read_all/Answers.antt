use Rattle.std.proofs.Common.{◌≡◌, ◌∷◌, [], ◌++◌, ◌+◌, ◌-◌, sym, subst, arith}
use Rattle.std.proofs.lemmas.Result.{err_from_is_err_and}
use Rattle.tup_field.specs.Parts.{many_at}
use Rattle.tup_field.proofs.Lists.{with_front, reads_more, reads_fail, reads_end}
use Rattle.tup_field.proofs.items.read_all.Goals as goal

pub loop-preserved : goal.loop-preserved
loop-preserved g c =
    let read = g.T.Field.format.reading in
    let x = c.in_ok-read.field-0 in
    let total = many_at read c.args.count c.args.reader.now in
    let next : with_front (c.loop.items ++ x ∷ []) (many_at read (c.args.count - (c.loop.counter + 1)) c.read.new.reader) ≡ total =
    reads_more read c.loop.items c.args.count c.loop.counter c.loop.reader x c.read.new.reader total c.loop-test.true c.in_ok-read.ensures c.loop.invariant in
    subst (λ xs. with_front xs (many_at read (c.args.count - (c.loop.counter + 1)) c.read.new.reader) ≡ total) (sym c.in_ok-push.ensures.ok) next

pub returns-in_err-read : goal.returns-in_err-read
returns-in_err-read g c =
    let read = g.T.Field.format.reading in
    let p = err_from_is_err_and c.from_residual-in_err-read.result c.from_residual-in_err-read.ensures.1 in
    rw (p.1, p.2) (reads_fail read c.loop.items c.args.count c.loop.counter c.loop.reader c.in_err-read.field-0.0 (many_at read c.args.count c.args.reader.now) c.loop-test.true c.in_err-read.ensures c.loop.invariant)

pub returns : goal.returns
returns g c =
    let read = g.T.Field.format.reading in
    reads_end read c.loop.items (c.args.count - c.loop.counter) c.loop.reader (many_at read c.args.count c.args.reader.now) (omega (arith, c.loop-test.false)) c.loop.invariant
