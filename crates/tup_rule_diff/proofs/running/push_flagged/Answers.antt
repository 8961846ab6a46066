use Rattle.std.proofs.Common.{None, refl, ◌++◌, ap, ◌∙◌, ℕ, get_or}
use Rattle.tup_rule_diff.specs.Running.{flag_at}
use Rattle.tup_rule_diff.proofs.Numbered.{grown}
use Rattle.tup_rule_diff.proofs.running.push_flagged.Goals as goal

pub loop-at-preserved : goal.loop-at-preserved
loop-at-preserved c =
    let g = c.args.nodes.now in
    let before = get_or c.args.befores.now c.loop-at.at None in
    grown (flag_at g) c.args.befores.now c.loop-at.at before None c.args.flags.now c.loop-at.flags c.push_if_flagged.new.flags c.loop-at-test.true refl c.loop-at.invariant
    (c.in_ok-push_if_flagged.ensures.ok ∙ ap (λ (n : ℕ). c.loop-at.flags ++ flag_at g n before) c.in_ok-number_of.ensures.number)
