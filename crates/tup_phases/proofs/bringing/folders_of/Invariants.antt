use Rattle.std.proofs.Common.{◌≡◌, map, take}
use Rattle.tup_rule_diff.specs.Edits.{dir_of}
use Rattle.tup_phases.proofs.bringing.folders_of.Given as goal

abbrev pub invariant-loop-folder : goal.invariant-loop-folder
invariant-loop-folder l = l.folders ≡ map dir_of (take l.folder-index l.readings)
