use Rattle.std.proofs.Common.{ℕ, List, length, refl, sym, ap, ◌∙◌, inr}
use Rattle.std.proofs.lemmas.Bool.{false≢true}
use Rattle.std.proofs.lemmas.Result.{err_from_is_err_and}
use Rattle.tup_table.specs.Table.{is_compacted_before}
use Rattle.tup_table.proofs.Readying.{appended_over, compacts_by, due_there, full_over, gate_by, size_ready}
use Rattle.tup_table.proofs.table.Table.due.Goals as goal

pub returns-in_err-bytes : goal.returns-in_err-bytes
returns-in_err-bytes c =
    let p = err_from_is_err_and c.from_residual-in_err-bytes.result c.from_residual-in_err-bytes.ensures.1 in
    rw (p.1, p.2) (appended_over c.args.self.now c.args.changes.now c.in_err-bytes.field-0.0 c.in_err-bytes.ensures)

pub fits_behind-requires : goal.fits_behind-requires
fits_behind-requires c = c.in_ok-size.ensures.0

pub returns-then-not-fits_behind : goal.returns-then-not-fits_behind
returns-then-not-fits_behind c =
    let table = c.args.self.now in
    let changes = c.args.changes.now in
    let first = compacts_by table (length c.in_ok-bytes.bytes) c.is_compacted_first-first.result c.is_compacted_first-first.ensures ∙ ap (λ (bytes : List ℕ). is_compacted_before table (length bytes)) c.in_ok-bytes.ensures.1 in
    let gate = gate_by table changes c.is_compacted_first-first.result c.gate_for-gate.result first c.gate_for-gate.ensures.first c.gate_for-gate.ensures.plain in
    let size = size_ready table changes c.in_ok-size.size c.keys_ascend.ensures c.in_ok-size.ensures.1 in
    inr
    (refl, full_over table changes c.in_ok-size.size c.gate_for-gate.result c.in_ok-bytes.bytes size gate c.in_ok-bytes.ensures.1 (λ room. absurd (false≢true (sym c.if-not-fits_behind.true ∙ c.fits_behind.ensures.1 room))))

pub returns : goal.returns
returns c =
    let table = c.args.self.now in
    let changes = c.args.changes.now in
    let first = compacts_by table (length c.in_ok-bytes.bytes) c.is_compacted_first-first.result c.is_compacted_first-first.ensures ∙ ap (λ (bytes : List ℕ). is_compacted_before table (length bytes)) c.in_ok-bytes.ensures.1 in
    let gate = gate_by table changes c.is_compacted_first-first.result c.gate_for-gate.result first c.gate_for-gate.ensures.first c.gate_for-gate.ensures.plain in
    let size = size_ready table changes c.in_ok-size.size c.keys_ascend.ensures c.in_ok-size.ensures.1 in
    due_there table changes c.in_ok-size.size c.gate_for-gate.result c.in_ok-bytes.bytes size gate c.in_ok-bytes.ensures.1 c.in_ok-bytes.ensures.0 c.in_ok-size.ensures.0 c.is_compacted_first-first.result first
    (c.fits_behind.ensures.0 c.if-not-fits_behind.false)
