-- What is done before the first rule is run, as the log of an update has it (own).
use Rattle.std.specs.Prelude.{◌≡◌}
use Rattle.tup_promise.specs.declared.log.Log.{Log}

-- the folders that were read stay, and the files that were removed: from here on rules are run
pub record OnlyRuns (old new : Log) : Type 0 where
  pub read : new.read ≡ old.read
  pub removed : new.removed ≡ old.removed
