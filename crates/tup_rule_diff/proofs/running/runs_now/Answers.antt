use Rattle.std.proofs.Common.{None, [], refl, ◌++◌, ap, ◌∙◌, ℕ, get_or}
use Rattle.tup_rule_diff.specs.Running.{run_at}
use Rattle.tup_rule_diff.proofs.Numbered.{grown}
use Rattle.tup_rule_diff.proofs.running.runs_now.Goals as goal

pub loop-at-preserved : goal.loop-at-preserved
loop-at-preserved c =
    let g = c.args.nodes.now in
    let before = get_or c.args.befores.now c.loop-at.at None in
    grown (run_at g) c.args.befores.now c.loop-at.at before None [] c.loop-at.runs c.push_run.new.runs c.loop-at-test.true refl c.loop-at.invariant
    (c.in_ok-push_run.ensures.ok ∙ ap (λ (n : ℕ). c.loop-at.runs ++ run_at g n before) c.in_ok-number_of.ensures.number)
