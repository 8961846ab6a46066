use Rattle.std.proofs.Common.{sym, subst, arith}
use Rattle.tup_record.specs.Reading.{record_at, Gives}
use Rattle.tup_record.proofs.Laws.{is_found}
use Rattle.tup_record.proofs.read.entry.Goals as goal

pub returns-clause-found : goal.returns-clause-found
returns-clause-found c =
    let value = c.args.value.now in
    let given : Gives c.of_kind.result (record_at c.args.key.now value) = subst (λ key. Gives c.of_kind.result (record_at key value)) (sym c.in-Some.ensures.cases.0) c.of_kind.ensures in
    is_found c.args.key.now value c.of_kind.result (λ i. omega (arith, c.type_inv.key i)) (λ i. omega (arith, c.type_inv.value i)) given
