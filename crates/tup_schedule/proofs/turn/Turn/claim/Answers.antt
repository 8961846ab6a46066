use Rattle.std.proofs.Common.{arith}
use Rattle.tup_schedule.proofs.TurnLaws.{turn_claims}
use Rattle.tup_schedule.proofs.turn.Turn.claim.Goals as goal

pub set-requires-clause-marks : goal.set-requires-clause-marks
set-requires-clause-marks c = c.requires.before.1.marks

pub set-requires-clause-place : goal.set-requires-clause-place
set-requires-clause-place c = let enough = c.requires.before.1.places in let within = c.requires.rule in omega (arith, enough, within)

pub returns : goal.returns
returns c = λ before now is takes. turn_claims c.args.plan.now before now c.args.rule c.args.self.now _ is takes c.set.ensures.marks c.set.ensures.places c.set.ensures.set
