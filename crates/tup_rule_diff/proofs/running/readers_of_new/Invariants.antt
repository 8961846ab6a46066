use Rattle.std.specs.Prelude.{◌↔◌, ℕ, Contains}
use Rattle.tup_rule_diff.proofs.Reading.{ReadsOneOf}
use Rattle.tup_rule_diff.proofs.running.readers_of_new.Given as goal

abbrev pub invariant-loop-at : goal.invariant-loop-at
invariant-loop-at l = (number : ℕ) → Contains l.found number ↔ ReadsOneOf l.led l.befores l.rules l.at number
