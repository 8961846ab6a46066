use Rattle.std.proofs.lemmas.Result.{err_from_is_err_and}
use Rattle.tup_rule.specs.declared.question.Question.TheVariants as question
use Rattle.tup_query.specs.Ask as specs
use Rattle.tup_query.proofs.Asking.{answered, unanswered}
use Rattle.tup_query.proofs.ask.content_at.Goals as goal

pub returns-in_err-told : goal.returns-in_err-told
returns-in_err-told g c =
    let p = err_from_is_err_and c.from_residual-in_err-told.result c.from_residual-in_err-told.ensures.1 in
    rw (p.1, p.2, ← c.in_ok-clone.ensures.cases) (unanswered (question.Content c.in_ok-clone.field-0) specs.content_in c.in_err-told.ensures)

pub returns : goal.returns
returns g c = rw (c.content_in.ensures, ← c.in_ok-clone.ensures.cases) (answered (question.Content c.in_ok-clone.field-0) specs.content_in c.in_ok-told.ensures)
