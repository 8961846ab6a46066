use Rattle.std.proofs.Common.{take}
use Rattle.std.specs.Map.{keys_of}
use Rattle.tup_readings.specs.Index.{AreFolders, AreTupfiles}
use Rattle.tup_readings.proofs.sources.index.Given as goal

abbrev pub invariant-loop-path : goal.invariant-loop-path
invariant-loop-path l =
    AreFolders (keys_of (take l.path-index l.files)) l.folders
    × AreTupfiles (keys_of (take l.path-index l.files)) l.tupfiles
