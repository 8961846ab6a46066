use Rattle.std.proofs.Common.{◌≡◌, ◌∙◌, ◌++◌, ◌∷◌, [], sym, ap, subst, None}
use Rattle.indexmap.specs.IndexMap.{get}
use Rattle.indexmap.proofs.CallerLemmas.{insert_entry-new}
use Rattle.tup_query.specs.Log.{AllOfKind, Log, same_question, told_before}
use Rattle.tup_query.proofs.OfKind.{kinds_more}
use Rattle.tup_query.proofs.log.Log.add.Goals as goal

pub invariant_of-self-2 : goal.invariant_of-self-2
invariant_of-self-2 c =
    let a = c.args in
    let kept = c.self.inside.told in
    let new : get same_question kept a.question ≡ None = ap (λ log. told_before log a.question) c.self.view_is ∙ c.requires.unasked in
    subst AllOfKind (sym (c.in_ok-insert.ensures.entries ∙ insert_entry-new same_question kept a.question a.told new)) (kinds_more kept.entries a.question a.told c.self.invariant c.requires.kind)

pub returns-clause-added : goal.returns-clause-added
returns-clause-added c =
    let a = c.args in
    let kept = c.self.inside.told in
    let new : get same_question kept a.question ≡ None = ap (λ log. told_before log a.question) c.self.view_is ∙ c.requires.unasked in
    c.in_ok-insert.ensures.entries
    ∙ insert_entry-new same_question kept a.question a.told new
    ∙ ap (λ (log : Log). log ++ (a.question, a.told) ∷ []) c.self.view_is
