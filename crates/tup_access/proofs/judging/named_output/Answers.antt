use Rattle.std.proofs.Common.{sym, ◌∙◌, inr, ap}
use Rattle.tup_access.specs.declared.refusal.Refusal.TheVariants.{Bad}
use Rattle.tup_access.specs.declared.verdict.Verdict.TheVariants.{IllegalWrite}
use Rattle.tup_access.proofs.Writes.{text_nowhere, text_foreign}
use Rattle.tup_access.proofs.judging.named_output.Goals as goal
use Rattle.tup_access.proofs.judging.named_output.Goals.{in_default-via-in-Some+else-contains_key, in_default-via-in_default}

pub returns-in_ok-clone-in_default-clause-err : goal.returns-in_ok-clone-in_default-clause-err
returns-in_ok-clone-in_default-clause-err c =
    let same = ap (λ text. Bad (IllegalWrite text)) c.in_ok-clone-in_default.ensures.cases in
    elim c.in_default.branch [
      | in_default-via-in-Some+else-contains_key w ↦ inr (text_foreign c.args.rule.now c.args.text.now c.in_ok-path.field-0 _ c.args.outputs.now c.requires c.in_ok-path.ensures w.in-Some.is (sym w.contains_key.ensures ∙ w.if-contains_key.false), same)
      | in_default-via-in_default w ↦ inr (text_nowhere c.args.rule.now c.args.text.now c.in_ok-path.field-0 c.in_ok-path.ensures w.in_default.is, same)
    ]
