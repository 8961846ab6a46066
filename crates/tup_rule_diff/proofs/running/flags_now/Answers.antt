use Rattle.std.proofs.lemmas.Result.{IfOk-weaker}
use Rattle.std.proofs.Common.{refl}
use Rattle.tup_graph.specs.Swap.{ReadsNew}
use Rattle.tup_closure.proofs.Stepping.{if_ok, if_err, none_stepped}
use Rattle.tup_rule_diff.specs.Edits.{led_by}
use Rattle.tup_rule_diff.proofs.Kept.{kept_are, kept_stepped}
use Rattle.tup_rule_diff.proofs.running.flags_now.Goals as goal

pub returns-in_err-asked-clause-fewer : goal.returns-in_err-asked-clause-fewer
returns-in_err-asked-clause-fewer g c =
    let led = led_by c.args.rules.now c.args.runs.now in
    if_err c.from_residual.result (none_stepped led (ReadsNew c.args.nodes.now led) c.args.steps.now)

pub returns-clause-flags : goal.returns-clause-flags
returns-clause-flags g c =
    let led = led_by c.args.rules.now c.args.runs.now in
    IfOk-weaker c.flags_kept.result _ _ (λ flags is. kept_are c.args.nodes.now led.rules c.args.befores.now c.requires.befores led refl (c.in_ok-asked.ensures.none c.if-asked.false) flags is) c.flags_kept.ensures.flags

pub returns-clause-steps : goal.returns-clause-steps
returns-clause-steps g c =
    let led = led_by c.args.rules.now c.args.runs.now in
    if_ok c.flags_kept.result (kept_stepped c.args.nodes.now led.rules c.args.befores.now c.requires.befores led refl (c.in_ok-asked.ensures.none c.if-asked.false) c.args.steps.now)

pub returns-clause-fewer : goal.returns-clause-fewer
returns-clause-fewer g c =
    let led = led_by c.args.rules.now c.args.runs.now in
    if_err c.flags_kept.result (none_stepped led (ReadsNew c.args.nodes.now led) c.args.steps.now)
