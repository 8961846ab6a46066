use Rattle.std.proofs.Common.{Option, take}
use Rattle.tup_path.specs.Name.{Names}
use Rattle.tup_stamp.specs.declared.Stamp.{Stamp}
use Rattle.tup_why.specs.Cause.{GivesNone}
use Rattle.tup_why.proofs.Finding.{EachIn}
use Rattle.tup_why.proofs.cause.lead.Given as goal

abbrev pub invariant-loop-path : goal.invariant-loop-path
invariant-loop-path l = EachIn (λ (ask : Names × Option Stamp). GivesNone l.nodes l.plan l.rule ask.0) (take l.path-index l.asks)
