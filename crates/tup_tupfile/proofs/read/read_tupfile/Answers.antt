use Rattle.std.proofs.Common.{◌≡◌, List, refl, ◌∙◌}
use Rattle.std.proofs.lemmas.Result.{err_from_is_err_and}
use Rattle.tup_rule.specs.declared.draft.Draft.{Draft}
use Rattle.tup_rule.specs.declared.question.Reading.{Reading}
use Rattle.tup_query.specs.Log.{noted_log}
use Rattle.tup_query.proofs.Went.{still}
use Rattle.tup_tupfile.proofs.Readings.{ended_reading, ended_agrees, ended_asks, kept_reading, kept_agrees, kept_asks}
use Rattle.tup_tupfile.proofs.read.read_tupfile.Goals as goal

pub returns-in_err-drafts : goal.returns-in_err-drafts
returns-in_err-drafts g c =
    let a = c.args in
    let went = rw c.new-log.ensures at c.in_err-drafts.ensures in
    let p = err_from_is_err_and c.from_residual.result c.from_residual.ensures.1 in
    rw (p.1, p.2)
    (record {
      reading = ended_reading a.dir.now _ went refl;
      answers = λ tells. ended_agrees a.dir.now _ went refl tells;
      stopped = went.stopped ∙ still (List Draft) Reading _;
      asks = λ earlier asked. ended_asks a.dir.now _ went refl earlier asked;
      same = went.same;
    })

pub returns-in_err-reading : goal.returns-in_err-reading
returns-in_err-reading g c =
    let went = rw c.new-log.ensures at c.in_ok-drafts.ensures in
    let p = err_from_is_err_and c.from_residual-in_err-reading.result c.from_residual-in_err-reading.ensures.1 in
    rw (p.1, p.2) (record { reading = tt; answers = λ tells. tt; stopped = went.stopped; asks = λ earlier asked. tt; same = went.same })

pub returns : goal.returns
returns g c =
    let a = c.args in
    let went = rw c.new-log.ensures at c.in_ok-drafts.ensures in
    let kept : Reading = record { drafts = c.in_ok-drafts.drafts; asked = noted_log c.drafts_of.new.log } in
    let same : c.in_ok-reading.reading ≡ kept = λ i. record { drafts = c.in_ok-reading.ensures.drafts i; asked = c.in_ok-reading.ensures.asked i } in
    rw same
    (record {
      reading = kept_reading a.dir.now kept went refl refl;
      answers = λ tells. kept_agrees a.dir.now kept went refl refl tells;
      stopped = went.stopped;
      asks = λ earlier asked. kept_asks a.dir.now kept went refl refl earlier asked;
      same = went.same;
    })
