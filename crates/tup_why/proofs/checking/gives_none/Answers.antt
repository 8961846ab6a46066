use Rattle.std.proofs.Common.{◌≡◌, ◌∙◌, ◌<◌, ◌≤◌, ℕ, Bool, List, true, false, length, ap, refl, sym, subst, slice_index}
use Rattle.std.specs.Prelude.{◌↔◌, Contains}
use Rattle.std.proofs.lemmas.Bool.{false≢true}
use Rattle.std.proofs.lemmas.List.Elements.{Contains-get_or}
use Rattle.tup_rule.specs.Rule.{declares}
use Rattle.tup_rule.specs.declared.rule.Rule.{Rule}
use Rattle.tup_why.specs.Cause.{GivesReason}
use Rattle.tup_why.proofs.Checks.{give_no_reason, one_gives}
use Rattle.tup_why.proofs.Finding.{each_more, each_of_all, each_of_none}
use Rattle.tup_why.proofs.checking.gives_none.Goals as goal

pub loop-number-init : goal.loop-number-init
loop-number-init c = each_of_none (λ (number : ℕ). GivesReason c.args.nodes.now c.args.plan.now.rules (declares c.args.rule.now c.args.path.now) c.args.path.now number → ⊥)

pub loop-number-preserved : goal.loop-number-preserved
loop-number-preserved c =
    let g = c.args.nodes.now in
    let plan = c.args.plan.now in
    let path = c.args.path.now in
    let at = c.loop-number.number-index in
    let number = slice_index c.as_slice-number-items.result.now at in
    let is : number ≡ slice_index plan.reach at = ap (λ (l : List ℕ). slice_index l at) c.as_slice-number-items.ensures in
    let answer = c.gives_reason.result in
    let gives =
    subst (λ (rules : List Rule). (answer ≡ true) ↔ GivesReason g rules (declares c.args.rule.now path) path number) c.as_slice-rules.ensures
    (subst (λ (declared : Bool). (answer ≡ true) ↔ GivesReason g c.as_slice-rules.result.now declared path number) c.declares-declares.ensures c.gives_reason.ensures) in
    each_more (λ (number : ℕ). GivesReason g plan.rules (declares c.args.rule.now path) path number → ⊥) plan.reach at number 0
    (subst (λ (l : List ℕ). at < length l) c.as_slice-number-items.ensures c.loop-number-test.true) is c.loop-number.invariant (λ reason. false≢true (sym c.if-gives_reason.false ∙ gives.1 reason))

pub returns-then-gives_reason : goal.returns-then-gives_reason
returns-then-gives_reason c =
    let g = c.args.nodes.now in
    let plan = c.args.plan.now in
    let path = c.args.path.now in
    let at = c.loop-number.number-index in
    let number = slice_index c.as_slice-number-items.result.now at in
    let is : number ≡ slice_index plan.reach at = ap (λ (l : List ℕ). slice_index l at) c.as_slice-number-items.ensures in
    let answer = c.gives_reason.result in
    let gives =
    subst (λ (rules : List Rule). (answer ≡ true) ↔ GivesReason g rules (declares c.args.rule.now path) path number) c.as_slice-rules.ensures
    (subst (λ (declared : Bool). (answer ≡ true) ↔ GivesReason g c.as_slice-rules.result.now declared path number) c.declares-declares.ensures c.gives_reason.ensures) in (
      λ (wrong : false ≡ true). absurd (false≢true wrong),
      λ none. absurd (one_gives g plan c.args.rule.now path number
          (subst (Contains plan.reach) (sym is) (Contains-get_or plan.reach at 0 (subst (λ (l : List ℕ). at < length l) c.as_slice-number-items.ensures c.loop-number-test.true))) (gives.0 c.if-gives_reason.true) none),
    )

pub returns : goal.returns
returns c =
    let plan = c.args.plan.now in
    let past = subst (λ (l : List ℕ). length l ≤ c.loop-number.number-index) c.as_slice-number-items.ensures c.loop-number-test.false in (
      λ _. give_no_reason c.args.nodes.now plan c.args.rule.now c.args.path.now
          (each_of_all (λ (number : ℕ). GivesReason c.args.nodes.now plan.rules (declares c.args.rule.now c.args.path.now) c.args.path.now number → ⊥) plan.reach c.loop-number.number-index past c.loop-number.invariant),
      λ _. refl,
    )
