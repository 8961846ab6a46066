use Rattle.std.proofs.Common.{◌≢◌, sym, ◌∙◌}
use Rattle.std.proofs.lemmas.Bool.{false≢true}
use Rattle.std.proofs.lemmas.Result.{err_from_is_err_and}
use Rattle.tup_table.specs.Store.{switch_of}
use Rattle.tup_table.proofs.Stores.{of_head, low_answer, low_refusal}
use Rattle.tup_table.proofs.reading.find.Goals as goal

pub is_switched-requires : goal.is_switched-requires
is_switched-requires c = c.in-Some.ensures.is_head.long

pub start_in-requires : goal.start_in-requires
start_in-requires c = c.in-Some.ensures.is_head.long

pub returns-then-is_switched : goal.returns-then-is_switched
returns-then-is_switched c =
    let parts = c.in-Some.ensures in
    let head = c.in-Some.head.now in
    of_head c.args.bytes.now head c.in-Some.low.now parts c.find_high.result (c.find_high.ensures head parts.is_head (c.is_switched.ensures.0 c.if-is_switched.true) c.start_in.ensures)

pub returns-in_err-opened : goal.returns-in_err-opened
returns-in_err-opened c =
    let p = err_from_is_err_and c.from_residual.result c.from_residual.ensures.1 in
    let closed : switch_of c.in-Some.head.now ≢ 1 = λ e. absurd (false≢true (sym c.if-is_switched.false ∙ c.is_switched.ensures.1 e)) in
    rw (p.1, p.2) (low_refusal c.args.bytes.now c.in-Some.head.now c.in-Some.low.now c.in-Some.ensures closed c.in_err-opened.field-0.0 c.in_err-opened.ensures)

pub returns : goal.returns
returns c =
    let closed : switch_of c.in-Some.head.now ≢ 1 = λ e. absurd (false≢true (sym c.if-is_switched.false ∙ c.is_switched.ensures.1 e)) in
    low_answer c.args.bytes.now c.in-Some.head.now c.in-Some.low.now c.in-Some.ensures closed c.in_ok-opened.opened c.in_ok-opened.ensures
