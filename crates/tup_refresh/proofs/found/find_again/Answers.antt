use Rattle.std.proofs.Common.{List, Ok, Err, subst}
use Rattle.tup_rule.specs.declared.question.Noted.{Noted}
use Rattle.tup_rule.specs.declared.question.Question.{Question}
use Rattle.tup_refresh.specs.Standing.{HasCompared}
use Rattle.tup_refresh.proofs.Finding.{found_stopped, stopped_lacks}
use Rattle.tup_refresh.proofs.found.find_again.Goals as goal

pub returns-in-Ok-clause-found : goal.returns-in-Ok-clause-found
returns-in-Ok-clause-found c = λ sources part has beside.
    let a = c.args in
    c.find_compared.ensures.found sources part has beside
    (subst (λ (l : List (Question × Noted)). HasCompared sources a.settings.now a.readings.now a.dir.now l (Ok c.in-Ok.stands)) c.as_slice.ensures (c.in-Ok.ensures sources part.paths part.stamps))

pub returns-clause-found : goal.returns-clause-found
returns-clause-found c = λ sources part has beside.
    let a = c.args in
    found_stopped sources a.settings.now a.readings.now a.dir.now a.reading.now c.in-Err.stop c.stopped.result c.stopped.ensures has beside
    (subst (λ (l : List (Question × Noted)). HasCompared sources a.settings.now a.readings.now a.dir.now l (Err c.in-Err.stop)) c.as_slice.ensures (c.in-Err.ensures sources part.paths part.stamps))

pub returns-clause-lacks : goal.returns-clause-lacks
returns-clause-lacks c = stopped_lacks c.args.part.now.fetched.now c.in-Err.stop c.stopped.result c.stopped.ensures
