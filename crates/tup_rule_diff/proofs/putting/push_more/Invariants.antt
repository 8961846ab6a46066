use Rattle.std.proofs.Common.{◌≡◌, ◌++◌, [], take}
use Rattle.tup_rule_diff.specs.Edits.{more_edits}
use Rattle.tup_rule_diff.proofs.Placing.{ArePlaces}
use Rattle.tup_rule_diff.proofs.putting.push_more.Given as goal

abbrev pub invariant-loop-at : goal.invariant-loop-at
invariant-loop-at l = record {
  edits : l.edits ≡ l.fn.edits ++ more_edits [] (take l.at l.rules);
  places : ArePlaces (take l.at l.rules) l.places;
}
