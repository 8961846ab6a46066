use Rattle.std.proofs.Common.{◌≡◌, ◌++◌}
use Rattle.tup_query.specs.Log.{AllOfKind, noted_log}
use Rattle.tup_query.proofs.log.Log.noted.Given as goal

abbrev pub invariant-loop-key : goal.invariant-loop-key
invariant-loop-key l = record {
  made : l.asked ++ noted_log l.key-iterator ≡ noted_log l.fn.self;
  kinds : AllOfKind l.key-iterator;
}
