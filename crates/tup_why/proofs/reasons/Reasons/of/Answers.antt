use Rattle.std.proofs.Common.{ℕ, List, ◌<◌, length, rules, ap, sym, subst, slice_index, take}
use Rattle.std.specs.Prelude.{Contains}
use Rattle.std.proofs.lemmas.List.Elements.{Contains-get_or}
use Rattle.tup_why.proofs.Table.{no_causes, one_more}
use Rattle.tup_why.proofs.reasons.Reasons.of.Goals as goal

pub loop-number-init : goal.loop-number-init
loop-number-init c = no_causes c.args.nodes.now c.args.plan.now (record { causes = c.new.result }) (λ number. search rules)

pub add-requires-clause-reached : goal.add-requires-clause-reached
add-requires-clause-reached c =
    let at = c.loop-number.number-index in
    let reach = c.args.plan.now.reach in
    subst (Contains reach) (ap (λ (l : List ℕ). slice_index l at) (sym c.as_slice-number-items.ensures))
    (Contains-get_or reach at 0 (subst (λ (l : List ℕ). at < length l) c.as_slice-number-items.ensures c.loop-number-test.true))

pub loop-number-preserved : goal.loop-number-preserved
loop-number-preserved c =
    let at = c.loop-number.number-index in
    let reach = c.args.plan.now.reach in
    one_more c.args.nodes.now c.args.plan.now at (slice_index c.as_slice-number-items.result.now at) 0 c.add.new.self (subst (λ (l : List ℕ). at < length l) c.as_slice-number-items.ensures c.loop-number-test.true) (ap (λ (l : List ℕ). slice_index l at) c.as_slice-number-items.ensures)
    (c.in_ok-add.ensures.added (take at reach) c.loop-number.invariant)
