-- Which files stay where an update stops.
use Rattle.std.specs.Prelude.{⊤}
use Rattle.tup_site.specs.World.{World, TreeStays}
use Rattle.tup_promise.specs.declared.stop.Stop.{Stop}
use Rattle.tup_promise.specs.declared.stop.Stop.TheVariants.{NoStore, BadStore, Sources, UserFile}

-- no file is touched before all sources were read, nor where one of the user's stands in the way
abbrev pub LeavesTree : World → World → Stop → Type 0
LeavesTree old new NoStore = TreeStays old new
LeavesTree old new (BadStore offset) = TreeStays old new
LeavesTree old new (Sources fault) = TreeStays old new
LeavesTree old new (UserFile path written found) = TreeStays old new
LeavesTree old new stop = ⊤
