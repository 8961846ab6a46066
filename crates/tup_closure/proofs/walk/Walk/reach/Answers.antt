use Rattle.std.proofs.Common.{◌≡◌, Bool, true, false, not, refl}
use Rattle.tup_closure.proofs.Walking.{goes_to_new}
use Rattle.tup_closure.proofs.walk.Walk.reach.Goals as goal

-- what was new wasn't there
absent : (new had : Bool) → new ≡ not had → new ≡ true → had ≡ false
absent new true is e = cc
absent new false is e = refl

pub returns-clause-goes : goal.returns-clause-goes
returns-clause-goes c =
    goes_to_new c.args.number c.args.self.now (record { reached = c.insert.new.self; waiting = c.push.new.self }) c.in_ok-insert.ensures.updates c.in_ok-insert.ensures.keys
    (absent c.in_ok-insert.field-0 _ c.in_ok-insert.ensures.added c.if-not-branch.false) c.in_ok-insert.ensures.ordered c.in_ok-push.ensures.items
