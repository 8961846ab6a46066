-- What the log of an update says is true (own).
use Rattle.std.specs.Prelude.{Option, IsTrue}
use Rattle.tup_site.specs.World.{World}
use Rattle.tup_site.specs.declared.site.Site.{Ghosts as Site}
use Rattle.tup_runner.specs.Next.{Next}
use Rattle.tup_runner.specs.declared.runner.Runner.{Ghosts as Runner}
use Rattle.tup_promise.specs.BadEnds.{BadEnds, BlamesFirst}
use Rattle.tup_promise.specs.Did.{ReadAndRemoved}
use Rattle.tup_promise.specs.GoodEnds.{GoodEnds}
use Rattle.tup_promise.specs.Kept.{IsKeptBySome, KeptHere}
use Rattle.tup_promise.specs.declared.log.Log.{Log}
use Rattle.tup_promise.specs.declared.stop.Stop.{Stop}

-- What the log says of an update that went on from a site, left this world and stopped so. Over a kept site, where site and runner tell,
-- each verdict is that of the clean build, and of the bad rules the first is named; what the good ones made stands, and none of them is due
-- in what is left, nor a rule that wasn't before. Whatever the runner is, just the folders were read whose Tupfile had to be, and just the files were removed that
-- had to be.
pub record IsTrueLog {S R : Type 0} (site : Site S) (runner : Runner R) (old : S) (new : World) (log : Log) (stopped : Option Stop) : Type 0 where
  pub bads : KeptHere site runner old → BadEnds runner.next (site.world old) log
  pub first : KeptHere site runner old → BlamesFirst (site.world old) log stopped
  pub left : KeptHere site runner old → GoodEnds runner.next (site.world old) new log
  pub did : IsTrue site.tells → IsKeptBySome site old → ReadAndRemoved (site.world old) log stopped

-- The same of an update of a kept world, by commands that mean this.
pub record IsTrueOver (next : Next) (old new : World) (log : Log) (stopped : Option Stop) : Type 0 where
  pub bads : BadEnds next old log
  pub first : BlamesFirst old log stopped
  pub left : GoodEnds next old new log
  pub did : ReadAndRemoved old log stopped
