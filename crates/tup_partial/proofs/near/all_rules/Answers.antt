use Rattle.std.proofs.Common.{◌≡◌, ℕ, ◌+◌, ◌<◌, length, sym, subst, arith}
use Rattle.tup_closure.specs.Steps.{IsListOf}
use Rattle.tup_partial.proofs.Places.{ArePlaces, one_place_more, places_listed}
use Rattle.tup_partial.proofs.near.all_rules.Goals as goal

pub loop-number-preserved : goal.loop-number-preserved
loop-number-preserved c =
    let number = c.loop-number.number in
    subst (ArePlaces (number + 1)) (sym c.in_ok-push.ensures.ok) (one_place_more number c.loop-number.numbers c.loop-number.invariant)

pub returns-clause-all : goal.returns-clause-all
returns-clause-all c =
    let count : c.loop-number.number ≡ length c.args.nodes.now.rules = omega (arith, c.in_ok-number-end.ensures.count) in
    subst (λ (n : ℕ). IsListOf (λ number. number < n) c.loop-number.numbers) count (places_listed c.loop-number.number c.loop-number.numbers c.loop-number.invariant)
