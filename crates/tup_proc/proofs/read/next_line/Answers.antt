use Rattle.std.proofs.Common.{◌≡◌, true, sym, subst, ◌∙◌, Ok}
use Rattle.tup_proc.specs.Reading.{ReadsLine}
use Rattle.tup_proc.proofs.Logs.{no_line, early_end, begins, is_nothing, is_something}
use Rattle.tup_proc.proofs.read.next_line.Goals as goal
use Rattle.tup_proc.proofs.read.next_line.Goals.{else-is_end-via-then-is_end+else-not-is_empty, else-is_end-via-else-is_end}

pub returns-in_default-2 : goal.returns-in_default-2
returns-in_default-2 c =
    no_line c.args.rest.now c.in-Some.front.now c.in-Some.behind.now c.in-Some.ensures (subst (λ o. ReadsLine c.in-Some.front.now (Ok o)) c.in_default-2.is c.in_ok-line.ensures)

pub returns-then-not-is_empty : goal.returns-then-not-is_empty
returns-then-not-is_empty c =
    let read = subst (λ o. ReadsLine c.in-Some.front.now (Ok o)) c.in-Some-2.is c.in_ok-line.ensures in
    early_end c.args.rest.now c.in-Some.front.now c.in-Some.behind.now c.in-Some-2.line c.in-Some.ensures read.0 read.1 (sym c.is_end.ensures ∙ c.if-is_end.true)
    (is_something c.in-Some.behind.now c.is_empty.result c.is_empty.ensures c.if-not-is_empty.true)

pub returns : goal.returns
returns c =
    let read = subst (λ o. ReadsLine c.in-Some.front.now (Ok o)) c.in-Some-2.is c.in_ok-line.ensures in
    begins c.args.rest.now c.in-Some.front.now c.in-Some.behind.now c.in-Some-2.line c.in-Some.ensures read.0 read.1
    (elim c.else-is_end.branch [
      | else-is_end-via-then-is_end+else-not-is_empty w ↦ λ ends. is_nothing c.in-Some.behind.now w.is_empty.result w.is_empty.ensures w.if-not-is_empty.false
      | else-is_end-via-else-is_end w ↦ λ ends. let goes : c.is_end.result ≡ true = c.is_end.ensures ∙ ends in let stays = w.if-is_end.false in absurd (cc)
    ])
