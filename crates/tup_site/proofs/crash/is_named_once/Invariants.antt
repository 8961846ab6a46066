use Rattle.std.proofs.Common.{◌≡◌, length}
use Rattle.tup_site.specs.Choice.{is_once}
use Rattle.tup_site.proofs.crash.is_named_once.Given as goal

abbrev pub invariant-loop-rest : goal.invariant-loop-rest
invariant-loop-rest l = is_once l.rest ≡ is_once l.choice

abbrev pub decreases-loop-rest : goal.decreases-loop-rest
decreases-loop-rest l = length l.rest
