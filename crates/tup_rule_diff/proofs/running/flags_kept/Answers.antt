use Rattle.std.proofs.Common.{◌∙◌, ◌++◌, ℕ, List, ap}
use Rattle.tup_rule_diff.specs.Numbered.{numbered}
use Rattle.tup_rule_diff.specs.Running.{flag_at}
use Rattle.tup_rule_diff.proofs.running.flags_kept.Goals as goal

pub returns-clause-flags : goal.returns-clause-flags
returns-clause-flags c =
    c.in_ok-push_flagged.ensures.ok ∙ ap (λ (l : List ℕ). l ++ numbered (flag_at c.args.nodes.now) 0 c.args.befores.now) c.new-flags.ensures
