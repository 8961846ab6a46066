use Rattle.std.proofs.Common.{◌≡◌, ◌++◌, drop}
use Rattle.tup_mini.specs.Steps.{echoed as echo_of}
use Rattle.tup_mini.proofs.Echoing.{behind}
use Rattle.tup_mini.proofs.doing.echoed.Given as goal

abbrev pub invariant-loop-at : goal.invariant-loop-at
invariant-loop-at l = l.line.items ++ behind l.at (drop l.at l.words) ≡ echo_of l.words
