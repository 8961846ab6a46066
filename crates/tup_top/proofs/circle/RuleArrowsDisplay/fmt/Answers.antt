use Rattle.std.proofs.Common.{sym, arith, rules}
use Rattle.std.proofs.Output.{has_written_append, has_written_of_eq}
use Rattle.tup_top.specs.Lines.{rule_arrow}
use Rattle.tup_top.proofs.Told.{told_one_more}
use Rattle.tup_top.proofs.circle.RuleArrowsDisplay.fmt.Goals as goal

pub loop-rule-preserved : goal.loop-rule-preserved
loop-rule-preserved g c =
    let more = told_one_more rule_arrow c.args.self.now.0.now c.loop-rule.rule-index c.rule-item.result (omega arith) (sym c.rule-item.is) in
    λ plain. has_written_of_eq _ _ _ _ _ more (has_written_append _ _ _ _ _ _ (c.loop-rule.invariant plain) (search rules))
