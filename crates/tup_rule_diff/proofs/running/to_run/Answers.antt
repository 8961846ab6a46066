use Rattle.std.proofs.Common.{◌∙◌, ◌↔◌, ℕ, List, refl, ap, sym, subst}
use Rattle.std.specs.Prelude.{Contains}
use Rattle.tup_graph.specs.Graph.{GraphState}
use Rattle.tup_graph.specs.Swap.{ReadsNew}
use Rattle.tup_closure.proofs.Stepping.{at_most, at_most_as, if_err, none_stepped, stepped_as}
use Rattle.tup_rule_diff.specs.Running.{ReadsOneNew}
use Rattle.tup_rule_diff.proofs.Kept.{is_root, reads_from, reads_to, to_run_are}
use Rattle.tup_rule_diff.proofs.running.to_run.Goals as goal

pub readers_of_new-requires : goal.readers_of_new-requires
readers_of_new-requires g c = c.rules.ensures ∙ ap (λ (g : GraphState). g.rules) c.nodes.ensures

pub above-requires-clause-roots : goal.above-requires-clause-roots
above-requires-clause-roots g c = λ root inside.
    let led = c.args.led.now in
    is_root c.args.nodes.now led.rules c.args.befores.now c.requires.befores led refl c.requires.runs root
    ((c.in_ok-roots.ensures.readers root).0 (subst (λ (l : List ℕ). Contains l root) c.as_slice.ensures inside))

pub returns-clause-flags : goal.returns-clause-flags
returns-clause-flags g c =
    let led = c.args.led.now in
    to_run_are c.args.nodes.now led.rules c.args.befores.now c.requires.befores led refl c.requires.runs c.as_slice.result.now c.in_ok-flags.flags c.push_flagged.new.flags
    (subst (λ (l : List ℕ). (n : ℕ) → Contains l n ↔ ReadsOneNew led c.args.befores.now n) (sym c.as_slice.ensures) c.in_ok-roots.ensures.readers)
    c.in_ok-flags.ensures.above c.in_ok-push_flagged.ensures.ok

pub returns-in_err-roots-clause-fewer : goal.returns-in_err-roots-clause-fewer
returns-in_err-roots-clause-fewer g c =
    if_err c.from_residual.result (none_stepped c.args.led.now (ReadsNew c.args.nodes.now c.args.led.now) c.args.steps.now)

pub returns-in_err-flags-clause-fewer : goal.returns-in_err-flags-clause-fewer
returns-in_err-flags-clause-fewer g c =
    let led = c.args.led.now in
    let nodes = c.args.nodes.now in
    let befores = c.args.befores.now in
    let roots = c.as_slice.result.now in
    let are : (n : ℕ) → Contains roots n ↔ ReadsOneNew led befores n = subst (λ (l : List ℕ). (n : ℕ) → Contains l n ↔ ReadsOneNew led befores n) (sym c.as_slice.ensures) c.in_ok-roots.ensures.readers in
    let to : (n : ℕ) → Contains roots n → ReadsNew nodes led n = λ n h. reads_to nodes led.rules befores c.requires.befores led refl n ((are n).0 h) in
    let from : (n : ℕ) → ReadsNew nodes led n → Contains roots n = λ n reads. (are n).1 (reads_from nodes led.rules befores c.requires.befores led refl n reads) in
    if_err c.from_residual-in_err-flags.result (at_most_as led led (Contains roots) (ReadsNew nodes led) refl refl to from c.args.steps.now c.above.new.steps c.in_err-flags.ensures.fewer)

pub returns-in_err-push_flagged-clause-fewer : goal.returns-in_err-push_flagged-clause-fewer
returns-in_err-push_flagged-clause-fewer g c =
    let led = c.args.led.now in
    let nodes = c.args.nodes.now in
    let befores = c.args.befores.now in
    let roots = c.as_slice.result.now in
    let are : (n : ℕ) → Contains roots n ↔ ReadsOneNew led befores n = subst (λ (l : List ℕ). (n : ℕ) → Contains l n ↔ ReadsOneNew led befores n) (sym c.as_slice.ensures) c.in_ok-roots.ensures.readers in
    let to : (n : ℕ) → Contains roots n → ReadsNew nodes led n = λ n h. reads_to nodes led.rules befores c.requires.befores led refl n ((are n).0 h) in
    let from : (n : ℕ) → ReadsNew nodes led n → Contains roots n = λ n reads. (are n).1 (reads_from nodes led.rules befores c.requires.befores led refl n reads) in
    if_err c.from_residual-in_err-push_flagged.result (at_most (stepped_as led led (Contains roots) (ReadsNew nodes led) refl refl to from c.args.steps.now c.above.new.steps c.in_ok-flags.ensures.steps))

pub returns-clause-steps : goal.returns-clause-steps
returns-clause-steps g c =
    let led = c.args.led.now in
    let nodes = c.args.nodes.now in
    let befores = c.args.befores.now in
    let roots = c.as_slice.result.now in
    let are : (n : ℕ) → Contains roots n ↔ ReadsOneNew led befores n = subst (λ (l : List ℕ). (n : ℕ) → Contains l n ↔ ReadsOneNew led befores n) (sym c.as_slice.ensures) c.in_ok-roots.ensures.readers in
    let to : (n : ℕ) → Contains roots n → ReadsNew nodes led n = λ n h. reads_to nodes led.rules befores c.requires.befores led refl n ((are n).0 h) in
    let from : (n : ℕ) → ReadsNew nodes led n → Contains roots n = λ n reads. (are n).1 (reads_from nodes led.rules befores c.requires.befores led refl n reads) in
    stepped_as led led (Contains roots) (ReadsNew nodes led) refl refl to from c.args.steps.now c.above.new.steps c.in_ok-flags.ensures.steps
