use Rattle.std.proofs.Common.{Ok, inr}
use Rattle.tup_record.specs.declared.record.Record.TheVariants as records
use Rattle.tup_graph.specs.declared.edit.Edit.TheVariants.{Remove}
use Rattle.tup_rule_diff.proofs.clearing.less.Goals as goal

pub returns : goal.returns
returns c = inr (λ i. Ok (Remove (records.Rule (c.in_ok-number_of.ensures.number i) 0 (c.in_ok-no_rule.ensures i))))
