use Rattle.std.proofs.Common.{◌≡◌, false, Option, take}
use Rattle.std.specs.FinMap as finite
use Rattle.tup_path.specs.Name.{Names}
use Rattle.tup_stamp.specs.declared.Stamp.{Stamp}
use Rattle.tup_rule.specs.Rule.{writes}
use Rattle.tup_why.proofs.Finding.{EachIn}
use Rattle.tup_why.proofs.checking.sees_asks.Given as goal

abbrev pub invariant-loop-path : goal.invariant-loop-path
invariant-loop-path l = EachIn (λ (ask : Names × Option Stamp). writes l.rule ask.0 ≡ false → ask.1 ≡ finite.get l.nodes.seen ask.0) (take l.path-index l.asks)
