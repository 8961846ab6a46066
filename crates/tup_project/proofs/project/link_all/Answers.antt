use Rattle.std.proofs.lemmas.Result.{err_from_is_err_and}
use Rattle.tup_project.specs.Project.{AreLinked}
use Rattle.tup_project.proofs.Given.{linked_stand}
use Rattle.tup_project.proofs.Told.{linking_told}
use Rattle.tup_project.proofs.project.link_all.Goals as goal

pub returns-clause-linked : goal.returns-clause-linked
returns-clause-linked c = record { are = c.in_ok-rules.ensures.rules; early = c.in_ok-rules.ensures.early; order = c.in_ok-rules.ensures.order }

pub returns-clause-buildable : goal.returns-clause-buildable
returns-clause-buildable c = λ sources read tree.
    let rules = c.in_ok-rules.rules in
    let linked : AreLinked c.args.readings.now rules = record { are = c.in_ok-rules.ensures.rules; early = c.in_ok-rules.ensures.early; order = c.in_ok-rules.ensures.order } in
    linked_stand sources c.args.readings.now rules read linked tree

pub returns-in_err-rules-clause-fault : goal.returns-in_err-rules-clause-fault
returns-in_err-rules-clause-fault c =
    let told = err_from_is_err_and c.from_residual.result c.from_residual.ensures.1 in
    rw (told.1, told.2) (λ sources read. linking_told sources c.args.readings.now c.in_err-rules.field-0.0 read c.in_err-rules.ensures.cause)
