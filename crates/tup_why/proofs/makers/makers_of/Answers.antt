use Rattle.std.proofs.Common.{ap, ℕ, List, ◌<◌, ◌≤◌, length, subst, slice_index}
use Rattle.std.proofs.lemmas.List.{take_all}
use Rattle.tup_rule.specs.declared.rule.Rule.{Rule}
use Rattle.tup_closure.specs.Grows.{Grows}
use Rattle.tup_closure.specs.Lists.{IsListed}
use Rattle.tup_why.specs.Makers.{AreMakersAmong, IsOutput}
use Rattle.tup_why.proofs.Making.{no_makers, makers_more}
use Rattle.tup_why.proofs.makers.makers_of.Goals as goal

pub loop-number-init : goal.loop-number-init
loop-number-init c = no_makers c.args.plan.now.rules c.new-makers.result c.new-makers.ensures.lists

pub loop-number-preserved : goal.loop-number-preserved
loop-number-preserved c =
    let at = c.loop-number.number-index in
    let reach = c.args.plan.now.reach in
    let number = slice_index c.as_slice-number-items.result.now at in
    makers_more c.args.plan.now.rules reach at number 0 c.loop-number.makers c.add_rule.new.makers
    (subst (λ (l : List ℕ). at < length l) c.as_slice-number-items.ensures c.loop-number-test.true) (ap (λ (l : List ℕ). slice_index l at) c.as_slice-number-items.ensures) c.loop-number.invariant
    (subst (λ (rules : List Rule). Grows (IsOutput rules number) (IsListed c.loop-number.makers) (IsListed c.add_rule.new.makers)) c.as_slice.ensures c.in_ok-add_rule.ensures.grows)

pub returns-clause-makers : goal.returns-clause-makers
returns-clause-makers c =
    let reach = c.args.plan.now.reach in
    let past = subst (λ (l : List ℕ). length l ≤ c.loop-number.number-index) c.as_slice-number-items.ensures c.loop-number-test.false in
    subst (λ (l : List ℕ). AreMakersAmong c.args.plan.now.rules l c.loop-number.makers) (take_all c.loop-number.number-index reach past) c.loop-number.invariant
