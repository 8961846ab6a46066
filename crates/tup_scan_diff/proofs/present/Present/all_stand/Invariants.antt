use Rattle.std.proofs.Common.{take}
use Rattle.std.specs.Prelude.{Option}
use Rattle.tup_path.specs.Name.{Content}
use Rattle.tup_scan_diff.specs.Present.{IsPresent}
use Rattle.tup_scan_diff.specs.Told.{AreToldSo}
use Rattle.tup_scan_diff.proofs.present.Present.all_stand.Given as goal

abbrev pub invariant-loop-one : goal.invariant-loop-one
invariant-loop-one l = (config : Option Content) → IsPresent config l.self → AreToldSo config l.self l.reader (take l.one-index l.asked)
