use Rattle.std.proofs.Common.{sym, subst, ◌∙◌, Ok}
use Rattle.tup_proc.specs.Reading.{ReadsNext}
use Rattle.tup_proc.proofs.Logs.{ended, reads_on, rest_behind}
use Rattle.tup_proc.proofs.read.read_log.Goals as goal

pub returns-then-ends-clause-log : goal.returns-then-ends-clause-log
returns-then-ends-clause-log c =
    let next = subst (λ o. ReadsNext c.lines.rest.now (Ok o)) c.in-Some.is c.in_ok-line.ensures in
    ended c.args.bytes.now c.lines.rest.now c.lines.lines c.push.new.self c.in-Some.line c.in-Some.size c.lines.invariant next (sym c.is_end-ends.ensures ∙ c.if-ends.true) c.in_ok-push.ensures.ok

pub lines-preserved : goal.lines-preserved
lines-preserved c =
    let next = subst (λ o. ReadsNext c.lines.rest.now (Ok o)) c.in-Some.is c.in_ok-line.ensures in
    reads_on c.args.bytes.now c.lines.rest.now c.lines.lines c.push.new.self c.in-Some.line c.in-Some.size _ c.lines.invariant next c.in_ok-push.ensures.ok (sym c.is_end-ends.ensures ∙ c.if-ends.false)
    (rest_behind c.lines.rest.now c.in-Some.size next.within)
