use Rattle.std.proofs.Common.{ℕ, List, ◌<◌, ◌≤◌, length, ap, rules, subst, slice_index, take}
use Rattle.std.proofs.lemmas.List.{take_all}
use Rattle.tup_update.proofs.Chained.{HasChains, chain_added, no_chains, one_more}
use Rattle.tup_update.proofs.because.chains.Goals as goal

pub loop-number-init : goal.loop-number-init
loop-number-init c = no_chains c.args.nodes.now c.args.plan.now c.new-chains.result (λ number. search rules)

pub loop-number-preserved : goal.loop-number-preserved
loop-number-preserved c =
    let at = c.loop-number.number-index in
    let g = c.args.nodes.now in
    let plan = c.args.plan.now in
    let number = slice_index c.as_slice-number-items.result.now at in
    one_more g plan at number 0 c.insert.new.self (subst (λ (l : List ℕ). at < length l) c.as_slice-number-items.ensures c.loop-number-test.true) (ap (λ (l : List ℕ). slice_index l at) c.as_slice-number-items.ensures)
    (chain_added g plan (take at plan.reach) number c.in_ok-chain.field-0 c.loop-number.chains c.insert.new.self (λ q. c.in_ok-insert.ensures.updates.0 q)
    (λ rule planned. c.in_ok-chain.ensures g rule c.in-Ok.ensures.causes planned) c.loop-number.invariant)

pub returns-clause-each : goal.returns-clause-each
returns-clause-each c =
    let plan = c.args.plan.now in
    let past = subst (λ (l : List ℕ). length l ≤ c.loop-number.number-index) c.as_slice-number-items.ensures c.loop-number-test.false in
    (subst (λ (l : List ℕ). HasChains c.args.nodes.now plan l c.loop-number.chains) (take_all c.loop-number.number-index plan.reach past) c.loop-number.invariant).each

pub returns-clause-are : goal.returns-clause-are
returns-clause-are c = c.loop-number.invariant.are
