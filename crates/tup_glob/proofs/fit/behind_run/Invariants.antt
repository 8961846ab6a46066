use Rattle.std.proofs.Common.{◌≡◌, drop}
use Rattle.tup_glob.specs.Fit.{behind_run as others_of}
use Rattle.tup_glob.proofs.fit.behind_run.Given as goal

-- no run came yet
abbrev pub invariant-loop-index : goal.invariant-loop-index
invariant-loop-index l = others_of l.symbols ≡ others_of (drop l.index l.symbols)
