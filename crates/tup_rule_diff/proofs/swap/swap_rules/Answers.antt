use Rattle.std.proofs.Common.{◌∙◌, ◌++◌, [], ℕ, List, Option, ap, length, sym, subst}
use Rattle.std.specs.Prelude.{Contains, ◌↔◌}
use Rattle.tup_rule.specs.declared.rule.Rule.{Rule}
use Rattle.tup_graph.specs.Graph.{GraphState}
use Rattle.tup_closure.proofs.Stepping.{if_err}
use Rattle.tup_rule_diff.specs.Before.{AreNumbersBefore}
use Rattle.tup_rule_diff.specs.Edits.{IsToRun, PutsAll, clear_edits, led_by, less_edits, more_edits, reading_edits}
use Rattle.tup_rule_diff.specs.Numbered.{numbered}
use Rattle.tup_rule_diff.specs.Running.{keeps_run, run_at}
use Rattle.tup_rule_diff.proofs.Kept.{are_edits, led_rules, led_runs}
use Rattle.tup_rule_diff.proofs.Led.{swap_none, swap_at_most, swap_less, swap_stepped}
use Rattle.tup_rule_diff.proofs.swap.swap_rules.Goals as goal

pub flags_now-requires-clause-befores : goal.flags_now-requires-clause-befores
flags_now-requires-clause-befores graph c =
    let g = c.args.nodes.now in
    let rules = c.args.rules.now in
    let befores = c.in_ok-befores.befores in
    let are = c.in_ok-befores.ensures.numbers in
    let kept = c.as_slice-2.ensures ∙ c.in_ok-runs.ensures.runs ∙ ap (numbered (run_at g) 0) c.as_slice.ensures in
    subst (λ (x : List Rule × List (Option ℕ)). AreNumbersBefore g x.0 x.1) (λ i. (sym (led_rules g rules befores are c.as_slice-2.result.now kept) i, sym c.as_slice-3.ensures i)) are

pub flags_now-requires-clause-runs : goal.flags_now-requires-clause-runs
flags_now-requires-clause-runs graph c =
    let g = c.args.nodes.now in
    let kept = c.as_slice-2.ensures ∙ c.in_ok-runs.ensures.runs ∙ ap (numbered (run_at g) 0) c.as_slice.ensures in
    led_runs g c.args.rules.now c.in_ok-befores.befores c.in_ok-befores.ensures.numbers c.as_slice-2.result.now kept

pub returns-clause-edits : goal.returns-clause-edits
returns-clause-edits graph c =
    let g = c.args.nodes.now in
    let rules = c.args.rules.now in
    let befores = c.in_ok-befores.befores in
    let runs = c.as_slice-6.result.now in
    let flags = c.as_slice-7.result.now in
    let kept = c.as_slice-6.ensures ∙ c.in_ok-runs.ensures.runs ∙ ap (numbered (run_at g) 0) c.as_slice.ensures in
    let led = ap (led_by rules) (c.as_slice-2.ensures ∙ sym c.as_slice-6.ensures) in
    are_edits g rules befores c.in_ok-befores.ensures.numbers runs kept c.args.fresh.now.readings c.args.fresh.now.gone c.in_ok-owned.owned flags c.new-edits.result c.push_rules.new.edits c.push_now.new.edits
    c.in_ok-owned.ensures.owned
    (subst (λ (x : List ℕ × GraphState). (n : ℕ) → Contains x.0 n ↔ IsToRun g x.1 n) (λ i. (sym c.as_slice-7.ensures i, led i)) c.in_ok-flags.ensures.flags)
    c.new-edits.ensures
    (c.in_ok-push_rules.ensures.ok
    ∙ ap (λ (l : List (Option ℕ)). c.new-edits.result ++ clear_edits (keeps_run g l) g ++ reading_edits g c.args.fresh.now.readings c.args.fresh.now.gone ++ less_edits (length rules) 0 g.rules ++ more_edits [] rules) c.as_slice-4.ensures)
    (subst (λ (l : List (Option ℕ)). PutsAll g l runs c.in_ok-owned.owned flags c.push_rules.new.edits c.push_now.new.edits) c.as_slice-5.ensures c.in_ok-push_now.ensures.ok)

pub returns-in_err-befores-clause-fewer : goal.returns-in_err-befores-clause-fewer
returns-in_err-befores-clause-fewer graph c =
    if_err c.from_residual.result (swap_none c.args.nodes.now c.args.rules.now c.args.steps.now)

pub returns-in_err-runs-clause-fewer : goal.returns-in_err-runs-clause-fewer
returns-in_err-runs-clause-fewer graph c =
    if_err c.from_residual-in_err-runs.result (swap_none c.args.nodes.now c.args.rules.now c.args.steps.now)

pub returns-in_err-flags-clause-fewer : goal.returns-in_err-flags-clause-fewer
returns-in_err-flags-clause-fewer graph c =
    let g = c.args.nodes.now in
    let kept = c.as_slice-2.ensures ∙ c.in_ok-runs.ensures.runs ∙ ap (numbered (run_at g) 0) c.as_slice.ensures in
    if_err c.from_residual-in_err-flags.result (swap_less g c.args.rules.now c.in_ok-befores.befores c.in_ok-befores.ensures.numbers c.as_slice-2.result.now kept c.args.steps.now c.flags_now.new.steps c.in_err-flags.ensures.fewer)

pub returns-in_err-owned-clause-fewer : goal.returns-in_err-owned-clause-fewer
returns-in_err-owned-clause-fewer graph c =
    let g = c.args.nodes.now in
    let kept = c.as_slice-2.ensures ∙ c.in_ok-runs.ensures.runs ∙ ap (numbered (run_at g) 0) c.as_slice.ensures in
    if_err c.from_residual-in_err-owned.result (swap_at_most g c.args.rules.now c.in_ok-befores.befores c.in_ok-befores.ensures.numbers c.as_slice-2.result.now kept c.args.steps.now c.flags_now.new.steps c.in_ok-flags.ensures.steps)

pub returns-in_err-push_rules-clause-fewer : goal.returns-in_err-push_rules-clause-fewer
returns-in_err-push_rules-clause-fewer graph c =
    let g = c.args.nodes.now in
    let kept = c.as_slice-2.ensures ∙ c.in_ok-runs.ensures.runs ∙ ap (numbered (run_at g) 0) c.as_slice.ensures in
    if_err c.from_residual-in_err-push_rules.result (swap_at_most g c.args.rules.now c.in_ok-befores.befores c.in_ok-befores.ensures.numbers c.as_slice-2.result.now kept c.args.steps.now c.flags_now.new.steps c.in_ok-flags.ensures.steps)

pub returns-in_err-push_now-clause-fewer : goal.returns-in_err-push_now-clause-fewer
returns-in_err-push_now-clause-fewer graph c =
    let g = c.args.nodes.now in
    let kept = c.as_slice-2.ensures ∙ c.in_ok-runs.ensures.runs ∙ ap (numbered (run_at g) 0) c.as_slice.ensures in
    if_err c.from_residual-in_err-push_now.result (swap_at_most g c.args.rules.now c.in_ok-befores.befores c.in_ok-befores.ensures.numbers c.as_slice-2.result.now kept c.args.steps.now c.flags_now.new.steps c.in_ok-flags.ensures.steps)

pub returns-clause-steps : goal.returns-clause-steps
returns-clause-steps graph c =
    let g = c.args.nodes.now in
    let kept = c.as_slice-2.ensures ∙ c.in_ok-runs.ensures.runs ∙ ap (numbered (run_at g) 0) c.as_slice.ensures in
    swap_stepped g c.args.rules.now c.in_ok-befores.befores c.in_ok-befores.ensures.numbers c.as_slice-2.result.now kept c.args.steps.now c.flags_now.new.steps c.in_ok-flags.ensures.steps
