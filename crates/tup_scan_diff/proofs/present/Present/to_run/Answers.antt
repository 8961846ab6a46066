use Rattle.std.proofs.Common.{◌≡◌, List, ℕ, true, refl, sym, subst}
use Rattle.std.specs.Prelude.{Contains, ◌↔◌}
use Rattle.std.proofs.lemmas.Result.{IfOk-weaker, on_err_weaker, on_ok_weaker}
use Rattle.tup_graph.specs.Above.{IsAbove}
use Rattle.tup_graph.specs.Graph.{GraphState, is_rule}
use Rattle.tup_closure.proofs.Stepping.{at_most_as, if_err, none_stepped, stepped_as}
use Rattle.tup_scan_diff.specs.Present.{graph_of, stamps_in}
use Rattle.tup_scan_diff.specs.Touched.{IsRootIn}
use Rattle.tup_scan_diff.proofs.Rooted.{above_seeing}
use Rattle.tup_scan_diff.proofs.present.Present.to_run.Goals as goal

pub above-requires-clause-roots : goal.above-requires-clause-roots
above-requires-clause-roots g c = λ root inside.
    subst (λ (h : GraphState). is_rule h root ≡ true) (sym c.requires.same) ((c.in_ok-roots.ensures.roots root).0 (subst (λ (l : List ℕ). Contains l root) c.as_slice.ensures inside)).0

pub returns-clause-above : goal.returns-clause-above
returns-clause-above g c =
    let nodes = c.args.self.now.nodes.now in
    let roots = c.as_slice.result.now in
    IfOk-weaker c.above.result (λ (numbers : List ℕ). (number : ℕ) → Contains numbers number ↔ IsAbove c.args.graph.now (Contains roots) number)
    (λ (numbers : List ℕ). (number : ℕ) → Contains numbers number ↔ IsAbove (graph_of c.args.self.now) (IsRootIn c.args.self.now) number)
    (λ numbers above. above_seeing nodes (stamps_in c.args.self.now) (IsRootIn c.args.self.now) roots numbers
    (subst (λ (l : List ℕ). (number : ℕ) → Contains l number ↔ IsRootIn c.args.self.now number) (sym c.as_slice.ensures) c.in_ok-roots.ensures.roots)
    (subst (λ (h : GraphState). (number : ℕ) → Contains numbers number ↔ IsAbove h (Contains roots) number) c.requires.same above))
    c.above.ensures.above

pub returns-in_err-roots-clause-fewer : goal.returns-in_err-roots-clause-fewer
returns-in_err-roots-clause-fewer g c =
    if_err c.from_residual.result (none_stepped c.args.graph.now (IsRootIn c.args.self.now) c.args.steps.now)

pub returns-clause-steps : goal.returns-clause-steps
returns-clause-steps g c =
    let graph = c.args.graph.now in
    let Root = IsRootIn c.args.self.now in
    let roots = c.as_slice.result.now in
    let are : (number : ℕ) → Contains roots number ↔ Root number = subst (λ (l : List ℕ). (number : ℕ) → Contains l number ↔ Root number) (sym c.as_slice.ensures) c.in_ok-roots.ensures.roots in
    on_ok_weaker c.above.result (stepped_as graph graph (Contains roots) Root refl refl (λ n. (are n).0) (λ n. (are n).1) c.args.steps.now c.above.new.steps) c.above.ensures.steps

pub returns-clause-fewer : goal.returns-clause-fewer
returns-clause-fewer g c =
    let graph = c.args.graph.now in
    let Root = IsRootIn c.args.self.now in
    let roots = c.as_slice.result.now in
    let are : (number : ℕ) → Contains roots number ↔ Root number = subst (λ (l : List ℕ). (number : ℕ) → Contains l number ↔ Root number) (sym c.as_slice.ensures) c.in_ok-roots.ensures.roots in
    on_err_weaker c.above.result (at_most_as graph graph (Contains roots) Root refl refl (λ n. (are n).0) (λ n. (are n).1) c.args.steps.now c.above.new.steps) c.above.ensures.fewer
