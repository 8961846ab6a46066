use Rattle.std.proofs.Common.{◌≡◌, List, None, Some, subst, sym}
use Rattle.std.specs.Prelude.{slice_get}
use Rattle.tup_rule.specs.declared.rule.Rule.{Rule}
use Rattle.tup_why.proofs.Table.{cause_added, none_added}
use Rattle.tup_why.proofs.reasons.Reasons.add.Goals as goal

pub cause_of-requires-clause-planned : goal.cause_of-requires-clause-planned
cause_of-requires-clause-planned c = record {
  here = subst (λ (rules : List Rule). slice_get rules c.args.number ≡ Some c.in-Some.rule.now) c.as_slice.ensures (sym c.in-Some.ensures);
  reached = c.requires.reached;
}

pub returns-in_ok-insert-in-Some-clause-added : goal.returns-in_ok-insert-in-Some-clause-added
returns-in_ok-insert-in-Some-clause-added c = λ numbers are.
    cause_added c.args.nodes.now c.args.plan.now numbers c.args.number c.in-Some.rule.now c.in_ok-cause-in-Some.cause c.args.self.now (record { causes = c.insert.new.self }) (record {
      here = subst (λ (rules : List Rule). slice_get rules c.args.number ≡ Some c.in-Some.rule.now) c.as_slice.ensures (sym c.in-Some.ensures);
      reached = c.requires.reached;
    }) c.in_ok-cause-in-Some.ensures.cause (λ q. c.in_ok-insert-in-Some.ensures.updates.0 q) are

pub returns-in-None-clause-added : goal.returns-in-None-clause-added
returns-in-None-clause-added c = λ numbers are.
    none_added c.args.nodes.now c.args.plan.now numbers c.args.number c.args.self.now
    (subst (λ (rules : List Rule). slice_get rules c.args.number ≡ None) c.as_slice.ensures (sym c.in-None.ensures)) are
