use Rattle.std.proofs.Common.{◌≡◌, ◌++◌, drop, map}
use Rattle.tup_tell.specs.declared.event.Event.TheVariants.{Read}
use Rattle.tup_top.proofs.telling.add_read.Given as goal

abbrev pub invariant-loop-dir : goal.invariant-loop-dir
invariant-loop-dir l = l.events.items ++ map Read (drop l.dir-index l.folders) ≡ l.fn.events.items ++ map Read l.folders
