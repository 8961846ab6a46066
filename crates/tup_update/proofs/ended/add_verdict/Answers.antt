use Rattle.std.proofs.Common.{◌++◌, List, sym, ap, append-nil, ◌∙◌}
use Rattle.tup_promise.specs.declared.log.EndedRule.{EndedRule}
use Rattle.tup_update.proofs.Telling.{not_there, told_none}
use Rattle.tup_update.proofs.ended.add_verdict.Goals as goal

pub returns-in-None-clause-ok : goal.returns-in-None-clause-ok
returns-in-None-clause-ok c =
    let ended = c.args.ended.now in
    let rules = c.args.rules.now in
    sym (append-nil ended)
    ∙ ap (λ (more : List EndedRule). ended ++ more) (sym (told_none rules c.args.number c.in-Some.at c.args.verdict.now c.in-Some.is (not_there rules c.in-Some.at c.in-None.ensures.lookup.0)))
