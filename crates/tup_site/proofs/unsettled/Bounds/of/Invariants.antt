use Rattle.std.proofs.Common.{take}
use Rattle.tup_site.specs.Bounds.{IsBounds}
use Rattle.tup_site.specs.History.{at_first, after_all}
use Rattle.tup_site.proofs.unsettled.Bounds.of.Given as goal

abbrev pub invariant-loop-change : goal.invariant-loop-change
invariant-loop-change l = (files : _) → IsBounds (after_all (at_first files) (take l.change-index l.changes)) l.bounds
