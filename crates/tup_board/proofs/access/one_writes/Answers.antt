use Rattle.std.proofs.Common.{sym, ◌∙◌, arith}
use Rattle.std.proofs.lemmas.Bool.{true≢false}
use Rattle.tup_rule.proofs.Laws.{is_generated-at}
use Rattle.tup_board.proofs.Granting.{none_more, none_writes}
use Rattle.tup_board.proofs.access.one_writes.Goals as goal

pub loop-number-init : goal.loop-number-init
loop-number-init c = λ k below. absurd (omega (arith, below))

pub loop-number-preserved : goal.loop-number-preserved
loop-number-preserved c =
    none_more c.args.rules.now c.args.numbers.now c.args.path.now c.loop-number.number-index
    (λ rule here written. true≢false (sym (c.is_written_by.ensures.1 (rule, here, written)) ∙ c.if-is_written_by.false)) c.loop-number.invariant

pub returns-then-is_written_by : goal.returns-then-is_written_by
returns-then-is_written_by c =
    let one = c.is_written_by.ensures.0 c.if-is_written_by.true in
    sym (is_generated-at c.args.rules.now c.args.path.now _ one.0 one.1 one.2)

pub returns : goal.returns
returns c = sym (none_writes c.args.rules.now c.args.numbers.now c.args.path.now c.loop-number.number-index c.requires (omega arith) c.loop-number.invariant)
