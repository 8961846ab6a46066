use Rattle.std.proofs.Common.{List, Some, ap, subst, sym, ◌∙◌}
use Rattle.std.proofs.lemmas.Option.{slice_get-get_or}
use Rattle.std.specs.Prelude.{◌≡◌, slice_get}
use Rattle.tup_access.specs.declared.inputs.Inputs.{Inputs}
use Rattle.tup_core.proofs.machine.Core.access.Goals as goal

pub returns-in-Some-clause-ok : goal.returns-in-Some-clause-ok
returns-in-Some-clause-ok c = λ is are.
    let there : slice_get c.deref.result.now c.args.running.now.rule ≡ Some c.in-Some.inputs.now =
    slice_get-get_or c.deref.result.now c.args.running.now.rule c.in-Some.inputs.now c.in-Some.ensures.lookup.3.0
    ∙ ap Some (sym (c.in-Some.ensures.lookup.3.1 c.in-Some.inputs.now)) in
    c.access_by.ensures.ok is (are c.in-Some.inputs.now (subst (λ (l : List Inputs). slice_get l c.args.running.now.rule ≡ Some c.in-Some.inputs.now) c.deref.ensures.value there))

pub returns-in-None-clause-ok : goal.returns-in-None-clause-ok
returns-in-None-clause-ok c = λ is are. c.access_by-in-None.ensures.ok is (c.few.ensures c.args.rule.now)
