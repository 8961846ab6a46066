use Rattle.std.proofs.Common.{◌∙◌, sym}
use Rattle.tup_rule_diff.proofs.Asking.{none_reads}
use Rattle.tup_rule_diff.proofs.asked.asks_new.Goals as goal

pub returns-clause-none : goal.returns-clause-none
returns-clause-none c = λ no. none_reads c.args.rules.now c.args.runs.now c.args.befores.now c.in_ok-outputs.outputs c.in_ok-outputs.ensures.outputs (sym c.one_asks_in.ensures ∙ no)
