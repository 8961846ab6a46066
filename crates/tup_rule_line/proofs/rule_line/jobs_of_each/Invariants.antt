use Rattle.std.proofs.Common.{◌≡◌, map, take}
use Rattle.tup_rule_line.specs.Job.{one_job}
use Rattle.tup_rule_line.proofs.rule_line.jobs_of_each.Given as goal

abbrev pub invariant-loop-input : goal.invariant-loop-input
invariant-loop-input l = l.jobs ≡ map one_job (take l.input-index l.inputs)
