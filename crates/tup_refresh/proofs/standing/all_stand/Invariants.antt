use Rattle.std.proofs.Common.{take}
use Rattle.tup_path.specs.Tree.{Tree}
use Rattle.tup_refresh.specs.Part.{HasPaths}
use Rattle.tup_refresh.specs.Standing.{AllStand}
use Rattle.tup_refresh.specs.Untouched.{SeesSources}
use Rattle.tup_refresh.proofs.standing.all_stand.Given as goal

abbrev pub invariant-loop-one : goal.invariant-loop-one
invariant-loop-one l = (sources : Tree) → HasPaths sources l.asked.sources.now → SeesSources sources l.nodes → AllStand sources l.asked.settings.now l.asked.readings.now l.asked.reader.now (take l.one-index l.told)
