use Rattle.std.proofs.Common.{◌∙◌, arith}
use Rattle.tup_schedule.proofs.TurnLaws.{waiters_here, waiters_marked, waiters_listed, behind_marked, turn_frees}
use Rattle.tup_schedule.proofs.turn.Turn.free.Goals as goal

pub set-requires-clause-marks : goal.set-requires-clause-marks
set-requires-clause-marks c = c.requires.before.1.marks

pub set-requires-clause-place : goal.set-requires-clause-place
set-requires-clause-place c = let enough = c.requires.before.1.places in let within = c.requires.rule in omega (arith, enough, within)

pub waiters-requires : goal.waiters-requires
waiters-requires c = waiters_here c.args.plan.now c.args.core.now c.args.rule c.requires.core c.requires.rule

pub mark_waiters-requires-clause-places : goal.mark_waiters-requires-clause-places
mark_waiters-requires-clause-places c = waiters_marked c.args.plan.now c.args.core.now c.args.rule c.waiters.result.now c.set.new.self c.requires.core c.waiters.ensures (let places = c.requires.before.1.places in let same = c.set.ensures.places in omega (arith, places, same))

pub mark_waiters-requires-clause-lists : goal.mark_waiters-requires-clause-lists
mark_waiters-requires-clause-lists c = waiters_listed c.args.plan.now c.args.core.now c.args.rule c.waiters.result.now c.requires.core c.waiters.ensures

pub mark_waiters-requires-clause-behind : goal.mark_waiters-requires-clause-behind
mark_waiters-requires-clause-behind c = behind_marked c.args.plan.now c.args.core.now c.set.new.self c.requires.core (let places = c.requires.before.1.places in let same = c.set.ensures.places in omega (arith, places, same))

pub returns : goal.returns
returns c = λ before is frees.
    turn_frees c.args.plan.now before c.args.core.now c.args.rule c.waiters.result.now c.args.self.now (record { marks = c.set.new.self }) _ c.requires.core is frees c.waiters.ensures
    c.mark_waiters.ensures.marks (c.mark_waiters.ensures.places ∙ c.set.ensures.places) c.set.ensures.set c.mark_waiters.ensures.told
