use Rattle.std.proofs.Common.{◌≡◌, Option, take}
use Rattle.tup_path.specs.Name.{Names}
use Rattle.tup_stamp.specs.declared.Stamp.{Stamp}
use Rattle.tup_why.proofs.Finding.{EachIn}
use Rattle.tup_why.proofs.checking.is_among.Given as goal

abbrev pub invariant-loop-asked : goal.invariant-loop-asked
invariant-loop-asked l = EachIn (λ (ask : Names × Option Stamp). ask.0 ≡ l.path → ⊥) (take l.asked-index l.asks)
