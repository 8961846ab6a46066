use Rattle.std.proofs.Common.{◌≡◌, ◌++◌, drop, map}
use Rattle.tup_tell.specs.declared.event.Event.TheVariants.{Removed}
use Rattle.tup_top.proofs.telling.add_removed.Given as goal

abbrev pub invariant-loop-path : goal.invariant-loop-path
invariant-loop-path l = l.events.items ++ map Removed (drop l.path-index l.paths) ≡ l.fn.events.items ++ map Removed l.paths
