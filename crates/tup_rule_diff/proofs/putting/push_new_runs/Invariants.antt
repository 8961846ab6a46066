use Rattle.std.proofs.Common.{take}
use Rattle.tup_rule_diff.specs.Edits.{HadNumber, PutsNews, run_so}
use Rattle.tup_rule_diff.proofs.putting.push_new_runs.Given as goal

abbrev pub invariant-loop-number : goal.invariant-loop-number
invariant-loop-number l = PutsNews (HadNumber l.befores) run_so (take l.number-index l.runs) l.fn.edits l.edits
