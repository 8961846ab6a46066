use Rattle.std.proofs.Common.{◌≡◌, List, ℕ, refl, length, arith}
use Rattle.std.specs.Prelude.{Contains, ◌↔◌}
use Rattle.std.proofs.lemmas.Grind.{common_steps}
use Rattle.std.proofs.lemmas.Result.{IfOk-weaker}
use Rattle.tup_graph.specs.Above.{IsAbove}
use Rattle.tup_closure.specs.declared.walk.Walk.{Walk}
use Rattle.tup_closure.proofs.Stepping.{begun_counted, counted_on, no_more, roots_at_most, all_counted, all_at_most, if_ok, if_err}
use Rattle.tup_closure.proofs.Walking.{begun, gone_on, nearer, all_above, none_left}
use Rattle.tup_closure.proofs.walk.above.Goals as goal

pub rules-init : goal.rules-init
rules-init g c = record {
  walk = begun c.args.graph.now c.args.roots.now c.new-walk.result c.reach_roots.new.self c.new-walk.ensures.reached c.new-walk.ensures.waiting c.requires.roots c.in_ok-reach_roots.ensures.goes;
  counted =
      begun_counted c.args.graph.now (Contains c.args.roots.now) c.args.steps.now c.new-walk.result c.reach_roots.new.self c.reach_roots.new.steps
      c.new-walk.ensures.reached c.new-walk.ensures.waiting c.in_ok-reach_roots.ensures.goes c.in_ok-reach_roots.ensures.steps;
}

pub returns-in_err-reach_roots-clause-fewer : goal.returns-in_err-reach_roots-clause-fewer
returns-in_err-reach_roots-clause-fewer g c =
    if_err c.from_residual.result (roots_at_most c.args.graph.now (Contains c.args.roots.now) c.args.steps.now c.reach_roots.new.steps c.in_err-reach_roots.ensures.fewer)

pub rules-preserved : goal.rules-preserved
rules-preserved g c =
    let mid : Walk = record { reached = c.rules.walk.reached; waiting = c.pop.new.self } in
    record {
      walk =
          gone_on c.args.graph.now c.requires.runs (Contains c.args.roots.now) c.rules.walk mid c.visit.new.self c.in-Some.number
          refl c.in-Some.ensures.items c.rules.invariant.walk c.in_ok-visit.ensures.goes;
      counted =
          counted_on c.args.graph.now (Contains c.args.roots.now) c.args.steps.now c.rules.walk mid c.visit.new.self c.in-Some.number c.rules.steps c.visit.new.steps
          refl c.in-Some.ensures.items c.rules.invariant.counted c.in_ok-visit.ensures.goes c.in_ok-visit.ensures.steps;
    }

pub rules-smaller : goal.rules-smaller
rules-smaller g c =
    nearer c.args.graph.now c.requires.runs (Contains c.args.roots.now) c.rules.walk (record { reached = c.rules.walk.reached; waiting = c.pop.new.self }) c.visit.new.self c.in-Some.number
    refl c.in-Some.ensures.items c.rules.invariant.walk c.in_ok-visit.ensures.goes

pub returns-in_err-visit-clause-fewer : goal.returns-in_err-visit-clause-fewer
returns-in_err-visit-clause-fewer g c =
    let mid : Walk = record { reached = c.rules.walk.reached; waiting = c.pop.new.self } in
    if_err c.from_residual-in_err-visit.result
    (no_more c.args.graph.now (Contains c.args.roots.now) c.args.steps.now c.rules.walk mid c.visit.new.self c.in-Some.number c.rules.steps c.visit.new.steps
    refl c.in-Some.ensures.items c.rules.invariant.counted c.rules.invariant.walk c.in_err-visit.ensures.fewer)

pub returns-clause-above : goal.returns-clause-above
returns-clause-above g c =
    let idle : length c.rules.walk.waiting.items ≡ 0 = grind (arith, common_steps, c.in_default.ensures.cases, c.in_default.ensures.variant) in
    IfOk-weaker c.numbers.result (λ numbers. numbers ≡ c.rules.walk.reached.keys)
    (λ (numbers : List ℕ). (number : ℕ) → Contains numbers number ↔ IsAbove c.args.graph.now (Contains c.args.roots.now) number)
    (λ numbers same. all_above c.args.graph.now (Contains c.args.roots.now) c.rules.walk c.rules.invariant.walk (none_left c.rules.walk.waiting.items idle) numbers same)
    c.numbers.ensures.numbers

pub returns-clause-steps : goal.returns-clause-steps
returns-clause-steps g c =
    let idle : length c.rules.walk.waiting.items ≡ 0 = grind (arith, common_steps, c.in_default.ensures.cases, c.in_default.ensures.variant) in
    if_ok c.numbers.result (all_counted c.args.graph.now (Contains c.args.roots.now) c.args.steps.now c.rules.walk c.rules.steps c.rules.invariant.counted c.rules.invariant.walk
    (none_left c.rules.walk.waiting.items idle))

pub returns-clause-fewer : goal.returns-clause-fewer
returns-clause-fewer g c =
    let idle : length c.rules.walk.waiting.items ≡ 0 = grind (arith, common_steps, c.in_default.ensures.cases, c.in_default.ensures.variant) in
    if_err c.numbers.result (all_at_most c.args.graph.now (Contains c.args.roots.now) c.args.steps.now c.rules.walk c.rules.steps c.rules.invariant.counted c.rules.invariant.walk
    (none_left c.rules.walk.waiting.items idle))
