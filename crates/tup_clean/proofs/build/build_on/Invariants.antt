use Rattle.std.proofs.Common.{◌≡◌, ◌++◌, List, IsTrue}
use Rattle.tup_clean.specs.Cleaned.{build}
use Rattle.tup_clean.specs.Ran.{commands_of}
use Rattle.tup_clean.specs.Taken.{Taken}
use Rattle.tup_clean.proofs.Taking.{IsGoing}
use Rattle.tup_clean.proofs.build.build_on.Given as goal

abbrev pub invariant-loop : goal.invariant-loop
invariant-loop g l = record {
  going : (taken : List Taken)
      × IsGoing g.R.Runner.tells g.R.Runner.next l.rules (build l.fn.tree l.fn.verdicts) (build l.tree l.verdicts) l.counter taken l.queue
      × (IsTrue g.R.Runner.tells_ran → g.R.Runner.ran l.runner ≡ g.R.Runner.ran l.fn.runner ++ commands_of l.rules taken);
  steady : g.R.Runner.faults l.runner ≡ g.R.Runner.faults l.fn.runner;
}
