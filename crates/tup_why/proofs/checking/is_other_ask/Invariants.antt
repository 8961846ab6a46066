use Rattle.std.proofs.Common.{◌≡◌, false, Option, take}
use Rattle.std.specs.FinMap as finite
use Rattle.tup_path.specs.Name.{Names}
use Rattle.tup_stamp.specs.declared.Stamp.{Stamp}
use Rattle.tup_rule.specs.Rule.{writes}
use Rattle.tup_why.proofs.Finding.{EachIn}
use Rattle.tup_why.proofs.checking.is_other_ask.Given as goal

abbrev pub invariant-loop-asked : goal.invariant-loop-asked
invariant-loop-asked l = EachIn (λ (ask : Names × Option Stamp). ask.0 ≡ l.path → writes l.rule l.path ≡ false → ask.1 ≡ finite.get l.nodes.seen l.path) (take l.asked-index l.asks)
