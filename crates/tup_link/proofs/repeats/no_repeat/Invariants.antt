use Rattle.std.proofs.Common.{◌≡◌, [], take, drop}
use Rattle.tup_link.specs.Faults.{repeated}
use Rattle.tup_link.specs.Known.{KnowsCommands}
use Rattle.tup_link.proofs.repeats.no_repeat.Given as goal

abbrev pub invariant-loop-at : goal.invariant-loop-at
invariant-loop-at l = record {
  known : KnowsCommands l.known (take l.at l.rules);
  rest : repeated (take l.at l.rules) (drop l.at l.rules) ≡ repeated [] l.rules;
}
