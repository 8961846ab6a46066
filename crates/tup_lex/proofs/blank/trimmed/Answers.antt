use Rattle.std.proofs.Common.{sym, ◌∙◌, length}
use Rattle.tup_lex.specs.Blank.{Ends, BlankFrom}
use Rattle.tup_lex.proofs.Trims.{trim_none, trim-between, start-IsCharBoundary}
use Rattle.tup_lex.proofs.blank.trimmed.Goals as goal

pub range-requires-clause-start_boundary : goal.range-requires-clause-start_boundary
range-requires-clause-start_boundary c =
    let e : Ends c.args.text.now c.in-Some.first c.in-Some.last = rw c.as_bytes.ensures.value at c.in-Some.ensures in
    start-IsCharBoundary _ _ _ c.utf8.text e

pub returns-in-Some : goal.returns-in-Some
returns-in-Some c =
    let e : Ends c.args.text.now c.in-Some.first c.in-Some.last = rw c.as_bytes.ensures.value at c.in-Some.ensures in
    c.range.ensures.value ∙ sym (trim-between _ _ _ e)

pub returns-in-None : goal.returns-in-None
returns-in-None c =
    let h : BlankFrom c.args.text.now 0 (length c.args.text.now) = rw c.as_bytes.ensures.value at c.in-None.ensures in
    sym (trim_none c.args.text.now h)
