use Rattle.std.proofs.lemmas.Result.{on_ok_weaker, MatchResult-weaker}
use Rattle.tup_readings.proofs.Working.{last_has, noted, goes_on, first_fault, closes_circle}
use Rattle.tup_readings.proofs.folders.advance.Goals as goal

pub returns-in-Err-clause-fault : goal.returns-in-Err-clause-fault
returns-in-Err-clause-fault c =
    let a = c.args in
    first_fault a.sources.now a.settings.now a.work.now a.dir c.in-Err.fault c.requires.work c.requires.last
    (c.in-Err.ensures (last_has a.sources.now a.settings.now a.work.now a.dir c.requires.work c.requires.last))

pub returns-in_ok-note-in-Ok-Read-clause-work : goal.returns-in_ok-note-in-Ok-Read-clause-work
returns-in_ok-note-in-Ok-Read-clause-work c =
    let a = c.args in
    let has = last_has a.sources.now a.settings.now a.work.now a.dir c.requires.work c.requires.last in
    noted a.sources.now a.settings.now a.work.now c.note.new.self a.dir c.in-Ok-Read.reading c.requires.work c.in_ok-note-in-Ok-Read.ensures ((rw c.in-Ok-Read.field-0-is at c.in-Ok-Read.ensures) has)

pub returns-in-Ok-Waits-clause-work : goal.returns-in-Ok-Waits-clause-work
returns-in-Ok-Waits-clause-work c =
    let a = c.args in
    let has = last_has a.sources.now a.settings.now a.work.now a.dir c.requires.work c.requires.last in
    let waits = (rw c.in-Ok-Waits.field-0-is at c.in-Ok-Waits.ensures) has in
    on_ok_weaker c.wait.result (λ begins. goes_on a.sources.now a.settings.now a.work.now c.wait.new.self a.dir c.in-Ok-Waits.next c.requires.work c.requires.last waits begins) c.wait.ensures.begins

pub returns-in-Ok-Waits-clause-fault : goal.returns-in-Ok-Waits-clause-fault
returns-in-Ok-Waits-clause-fault c =
    let a = c.args in
    let has = last_has a.sources.now a.settings.now a.work.now a.dir c.requires.work c.requires.last in
    let waits = (rw c.in-Ok-Waits.field-0-is at c.in-Ok-Waits.ensures) has in
    MatchResult-weaker c.wait.result c.wait.ensures.closes (λ done yes. tt)
    (λ end closes. closes_circle a.sources.now a.settings.now a.work.now a.dir c.in-Ok-Waits.next end c.requires.work c.requires.last waits closes)
