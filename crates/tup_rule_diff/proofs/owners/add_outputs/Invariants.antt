use Rattle.std.proofs.Common.{◌≡◌, drop, fold}
use Rattle.tup_rule_diff.specs.Owners.{with_output}
use Rattle.tup_rule_diff.proofs.owners.add_outputs.Given as goal

abbrev pub invariant-loop-path : goal.invariant-loop-path
invariant-loop-path l = fold (with_output l.number) l.owned (drop l.path-index l.outputs) ≡ fold (with_output l.number) l.fn.owned l.outputs
