use Rattle.std.proofs.Common.{◌≡◌, ◌<◌, ℕ, List, ◌∷◌, ◌++◌, [], Some, length, take, add-one, get_or, ◌≤◌, refl, sym, ap, subst, ◌∙◌}
use Rattle.std.proofs.Math.Seq.{take-suc}
use Rattle.std.proofs.lemmas.List.{take_all}
use Rattle.std.proofs.lemmas.Option.{slice_get_read}
use Rattle.std.specs.BTreeMap.{get}
use Rattle.std.specs.List.{Contains, slice_get}
use Rattle.std.specs.Option.{option_map}
use Rattle.std.specs.Ordering.{nat_cmp}
use Rattle.tup_rule.specs.declared.rule.Rule.{Rule}
use Rattle.tup_rule.specs.declared.rule.RuleName.{RuleName}
use Rattle.tup_rule.specs.Rule.{name_of}
use Rattle.tup_update.proofs.Waiting.{put_name, within}
use Rattle.tup_update.proofs.names.waiting.Goals as goal

pub bounds-rules-number : goal.bounds-rules-number
bounds-rules-number c =
    let k = c.loop-number.number-index in
    let items = c.as_slice-number-items in
    let below = subst (λ (l : List ℕ). k < length l) items.ensures c.loop-number-test.true in
    subst (λ (l : List ℕ). get_or l k 0 < length c.as_slice-rules.result.now) (sym items.ensures)
    (subst (λ (rules : List Rule). get_or c.args.plan.now.reach k 0 < length rules) (sym c.as_slice-rules.ensures) (within c.args.plan.now c.requires k below))

pub loop-number-preserved : goal.loop-number-preserved
loop-number-preserved c = λ at contains.
    let k = c.loop-number.number-index in
    let plan = c.args.plan.now in
    let items = c.as_slice-number-items in
    let number = get_or items.result.now k 0 in
    let name = c.in_ok-name_of.field-0 in
    let below = subst (λ (l : List ℕ). k < length l) items.ensures c.loop-number-test.true in
    let same : get_or plan.reach k 0 ≡ number = ap (λ (l : List ℕ). get_or l k 0) (sym items.ensures) in
    let in_rules : number < length plan.rules = subst (λ (n : ℕ). n < length plan.rules) same (within plan c.requires k below) in
    let rule = c.index-rules-number.result in
    let there : slice_get plan.rules number ≡ Some rule =
    slice_get_read plan.rules (length plan.rules) number rule refl in_rules (c.index-rules-number.is ∙ ap (λ (rules : List Rule). get_or rules number rule) c.as_slice-rules.ensures) in
    let here : Some name ≡ option_map name_of (slice_get plan.rules number) = ap (λ (n : RuleName). Some n) c.in_ok-name_of.ensures ∙ sym (ap (option_map name_of) there) in
    let whole = ap (λ (n : ℕ). take n plan.reach) (add-one k) ∙ take-suc plan.reach k 0 below ∙ ap (λ (n : ℕ). take k plan.reach ++ n ∷ []) same in
    put_name plan.rules (get nat_cmp c.loop-number.names) (get nat_cmp c.insert.new.self) number name c.in_ok-insert.ensures.updates.1 c.in_ok-insert.ensures.updates.2 here
    (take k plan.reach) c.loop-number.invariant at (subst (λ (l : List ℕ). Contains l at) whole contains)

pub returns : goal.returns
returns c = λ number contains.
    let plan = c.args.plan.now in
    let items = c.as_slice-number-items in
    let past = subst (λ (l : List ℕ). length l ≤ c.loop-number.number-index) items.ensures c.loop-number-test.false in
    c.loop-number.invariant number (subst (λ (l : List ℕ). Contains l number) (sym (take_all c.loop-number.number-index plan.reach past)) contains)
