use Rattle.std.proofs.Common.{List, refl, sym, subst, arith}
use Rattle.std.specs.Prelude.{reverse}
use Rattle.tup_why.specs.Reason.{GoesOn}
use Rattle.tup_why.specs.declared.reason.Link.{Link}
use Rattle.tup_why.proofs.Chains.{came_to_none, came_to_root, none_there, went_back}
use Rattle.tup_why.proofs.Circles.{in_circle}
use Rattle.tup_why.proofs.reasons.Reasons.trace.Goals as goal

pub loop-steps-init : goal.loop-steps-init
loop-steps-init c = λ g are. (subst (λ (l : List Link). GoesOn g c.args.plan.now c.args.number (reverse l) c.args.number) (sym c.requires) refl, refl)

pub loop-steps-preserved : goal.loop-steps-preserved
loop-steps-preserved c = λ g are.
    let plan = c.args.plan.now in
    let before = c.loop-steps.invariant g are in
    let at = c.loop-steps.at in
    went_back g plan c.loop-steps.steps c.args.number at c.in-Back.maker (reverse c.step.new.links.items) _ c.in-Back.is before.1
    (c.in_ok-root.ensures.step g plan c.args.number are before.0)

pub returns-in-Begins-clause-traced : goal.returns-in-Begins-clause-traced
returns-in-Begins-clause-traced c = λ g are.
    let plan = c.args.plan.now in
    came_to_root g plan c.args.number c.loop-steps.at c.in-Begins.root (reverse c.step.new.links.items) _ c.in-Begins.is
    (c.in_ok-root.ensures.step g plan c.args.number are (c.loop-steps.invariant g are).0)

pub returns-in-Unplanned-clause-traced : goal.returns-in-Unplanned-clause-traced
returns-in-Unplanned-clause-traced c = λ g are.
    let plan = c.args.plan.now in
    let before = c.loop-steps.invariant g are in
    none_there g plan c.loop-steps.steps c.args.number c.loop-steps.at before.1
    (came_to_none g plan c.args.number c.loop-steps.at (reverse c.step.new.links.items) _ c.in-Unplanned.is (c.in_ok-root.ensures.step g plan c.args.number are before.0))

pub returns-clause-traced : goal.returns-clause-traced
returns-clause-traced c = λ g are rule planned. in_circle g c.args.plan.now c.loop-steps.steps c.args.number c.loop-steps.at rule (let all = c.len-steps-end.ensures in let end = c.loop-steps-test.false in let most = c.loop-steps.auto.steps-end in omega arith) planned (c.loop-steps.invariant g are).1
