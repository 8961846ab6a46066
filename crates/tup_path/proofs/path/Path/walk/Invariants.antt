use Rattle.std.proofs.Common.{◌≡◌, length, IsUtf8}
use Rattle.tup_path.specs.Resolve.{parts, walk}
use Rattle.tup_path.proofs.path.Path.walk.Given as goal

abbrev pub invariant-parts : goal.invariant-parts
invariant-parts l = (walk l.fn.self (parts l.fn.text) ≡ walk l.path (parts l.rest)) × IsUtf8 l.rest

abbrev pub decreases-parts : goal.decreases-parts
decreases-parts l = length l.rest
