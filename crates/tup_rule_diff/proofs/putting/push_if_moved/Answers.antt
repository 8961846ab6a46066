use Rattle.std.proofs.Common.{◌∷◌, ◌++◌, [], ℕ, ap, ◌∙◌}
use Rattle.tup_record.specs.declared.run.RunRecord.{RunRecord}
use Rattle.tup_graph.specs.declared.edit.Edit.{Edit}
use Rattle.tup_rule_diff.specs.Edits.{HadNumber, run_so}
use Rattle.tup_rule_diff.proofs.Pushing.{given}
use Rattle.tup_rule_diff.proofs.NewPuts.{one_put, stays_put}
use Rattle.tup_rule_diff.proofs.putting.push_if_moved.Goals as goal

pub returns-then-had_number-clause-ok : goal.returns-then-had_number-clause-ok
returns-then-had_number-clause-ok c = stays_put (HadNumber c.args.befores.now) run_so (c.args.number, c.args.run.now) c.args.edits.now (c.had_number.ensures c.if-had_number.true)

pub returns-clause-ok : goal.returns-clause-ok
returns-clause-ok c =
    let one : ℕ × RunRecord = (c.args.number, c.args.run.now) in
    one_put (HadNumber c.args.befores.now) run_so one c.args.edits.now c.push.new.self (c.in_ok-push.ensures.ok ∙ ap (λ (e : Edit). c.args.edits.now ++ e ∷ []) (given c.in_ok-recorded.field-0 (run_so one) _ c.in_ok-recorded.ensures))
