use Rattle.std.proofs.Common.{◌≡◌, ◌↔◌, ℕ, true, List, Contains, refl, sym, subst}
use Rattle.tup_graph.specs.Graph.{GraphState, is_flagged}
use Rattle.tup_closure.proofs.Stepping.{above_as, at_most_as, if_err, none_stepped, stepped_as}
use Rattle.tup_partial.specs.Plan.{IsFlagged}
use Rattle.tup_partial.proofs.planning.reach.Goals as goal

-- the flagged rules of the same graph
flagged_of : (numbers : List ℕ) (nodes g : GraphState) → nodes ≡ g → ((n : ℕ) → Contains numbers n ↔ (is_flagged nodes n ≡ true)) → (n : ℕ) → Contains numbers n ↔ IsFlagged g n
flagged_of numbers nodes g same flagged = subst (λ (h : GraphState). (n : ℕ) → Contains numbers n ↔ (is_flagged h n ≡ true)) same flagged

-- and their slice
sliced : (numbers slice : List ℕ) (g : GraphState) → slice ≡ numbers → ((n : ℕ) → Contains numbers n ↔ IsFlagged g n) → (n : ℕ) → Contains slice n ↔ IsFlagged g n
sliced numbers slice g same flagged = subst (λ (ns : List ℕ). (n : ℕ) → Contains ns n ↔ IsFlagged g n) (sym same) flagged

pub returns-in_err-flagged-clause-fewer : goal.returns-in_err-flagged-clause-fewer
returns-in_err-flagged-clause-fewer g c =
    if_err c.from_residual.result (none_stepped c.args.graph.now (IsFlagged c.args.graph.now) c.args.steps.now)

pub above-requires-clause-roots : goal.above-requires-clause-roots
above-requires-clause-roots g c = λ root inside.
    c.requires.flags root ((flagged_of c.in_ok-flagged.flagged c.nodes.result.now c.args.graph.now c.nodes.ensures c.in_ok-flagged.ensures.flagged root).0 (subst (λ (ns : List ℕ). Contains ns root) c.as_slice.ensures inside))

pub returns-in_err-numbers-clause-fewer : goal.returns-in_err-numbers-clause-fewer
returns-in_err-numbers-clause-fewer g c =
    let graph = c.args.graph.now in
    let roots = c.as_slice.result.now in
    let are = sliced c.in_ok-flagged.flagged roots graph c.as_slice.ensures (flagged_of c.in_ok-flagged.flagged c.nodes.result.now graph c.nodes.ensures c.in_ok-flagged.ensures.flagged) in
    if_err c.from_residual-in_err-numbers.result (at_most_as graph graph (Contains roots) (IsFlagged graph) refl refl (λ n. (are n).0) (λ n. (are n).1) c.args.steps.now c.above.new.steps c.in_err-numbers.ensures.fewer)

pub returns-clause-reach : goal.returns-clause-reach
returns-clause-reach g c =
    let graph = c.args.graph.now in
    let roots = c.as_slice.result.now in
    let are = sliced c.in_ok-flagged.flagged roots graph c.as_slice.ensures (flagged_of c.in_ok-flagged.flagged c.nodes.result.now graph c.nodes.ensures c.in_ok-flagged.ensures.flagged) in
    let above = c.in_ok-numbers.ensures.above in
    λ n. (
      λ inside. (let is = (above n).0 inside in (is.0, above_as graph graph (Contains roots) (IsFlagged graph) refl refl (λ root. (are root).0) is.0 n is.1)),
      λ is. (above n).1 (is.0, above_as graph graph (IsFlagged graph) (Contains roots) refl refl (λ root. (are root).1) is.0 n is.1),
    )

pub returns-clause-steps : goal.returns-clause-steps
returns-clause-steps g c =
    let graph = c.args.graph.now in
    let roots = c.as_slice.result.now in
    let are = sliced c.in_ok-flagged.flagged roots graph c.as_slice.ensures (flagged_of c.in_ok-flagged.flagged c.nodes.result.now graph c.nodes.ensures c.in_ok-flagged.ensures.flagged) in
    stepped_as graph graph (Contains roots) (IsFlagged graph) refl refl (λ n. (are n).0) (λ n. (are n).1) c.args.steps.now c.above.new.steps c.in_ok-numbers.ensures.steps
