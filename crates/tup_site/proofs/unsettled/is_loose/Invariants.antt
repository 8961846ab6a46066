use Rattle.std.proofs.Common.{◌≡◌, take}
use Rattle.tup_site.specs.State.{is_among}
use Rattle.tup_site.specs.History.{at_first, after_all}
use Rattle.tup_site.proofs.unsettled.is_loose.Given as goal

abbrev pub invariant-loop-change : goal.invariant-loop-change
invariant-loop-change l = (files : _) → l.is_so ≡ is_among (after_all (at_first files) (take l.change-index l.changes)).loose l.path
