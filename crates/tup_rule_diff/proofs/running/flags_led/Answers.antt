use Rattle.std.proofs.Common.{◌↔◌, List, ℕ, sym, subst}
use Rattle.std.specs.Prelude.{Contains, IfOk, OnErr, OnOk}
use Rattle.tup_graph.specs.Graph.{GraphState}
use Rattle.tup_graph.specs.Swap.{ReadsNew}
use Rattle.tup_closure.specs.Readers.{AreRunsOfRules}
use Rattle.tup_closure.specs.Steps.{HasStepped, HasSteppedAtMost}
use Rattle.tup_closure.proofs.Stepping.{if_err, none_stepped}
use Rattle.tup_rule_diff.specs.Before.{AreNumbersBefore}
use Rattle.tup_rule_diff.specs.Edits.{IsToRun, led_by}
use Rattle.tup_rule_diff.proofs.running.flags_led.Goals as goal

pub to_run-flags-requires-clause-befores : goal.to_run-flags-requires-clause-befores
to_run-flags-requires-clause-befores g c = subst (λ (led : GraphState). AreNumbersBefore c.args.nodes.now led.rules c.args.befores.now) (sym c.in_ok-led.ensures.led) c.requires.befores

pub to_run-flags-requires-clause-runs : goal.to_run-flags-requires-clause-runs
to_run-flags-requires-clause-runs g c = subst AreRunsOfRules (sym c.in_ok-led.ensures.led) c.requires.runs

pub returns-clause-flags : goal.returns-clause-flags
returns-clause-flags g c =
    subst (λ (led : GraphState). IfOk c.to_run-flags.result (λ (flags : List ℕ). (number : ℕ) → Contains flags number ↔ IsToRun c.args.nodes.now led number)) c.in_ok-led.ensures.led c.to_run-flags.ensures.flags

pub returns-in_err-led-clause-fewer : goal.returns-in_err-led-clause-fewer
returns-in_err-led-clause-fewer g c =
    let led = led_by c.args.rules.now c.args.runs.now in
    if_err c.from_residual.result (none_stepped led (ReadsNew c.args.nodes.now led) c.args.steps.now)

pub returns-clause-steps : goal.returns-clause-steps
returns-clause-steps g c =
    subst (λ (led : GraphState). OnOk c.to_run-flags.result (HasStepped led (ReadsNew c.args.nodes.now led) c.args.steps.now c.to_run-flags.new.steps)) c.in_ok-led.ensures.led c.to_run-flags.ensures.steps

pub returns-clause-fewer : goal.returns-clause-fewer
returns-clause-fewer g c =
    subst (λ (led : GraphState). OnErr c.to_run-flags.result (HasSteppedAtMost led (ReadsNew c.args.nodes.now led) c.args.steps.now c.to_run-flags.new.steps)) c.in_ok-led.ensures.led c.to_run-flags.ensures.fewer
