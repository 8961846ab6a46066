use Rattle.std.proofs.Common.{◌≡◌, map, take}
use Rattle.tup_rule.specs.Makers.{producers}
use Rattle.tup_link.proofs.makers.producers.Given as goal

abbrev pub invariant-loop-rule : goal.invariant-loop-rule
invariant-loop-rule l = l.all.items ≡ map (producers l.rules) (take l.rule-index l.rules)
