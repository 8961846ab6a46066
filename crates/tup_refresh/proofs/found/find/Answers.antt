use Rattle.std.proofs.Common.{inl, Option, sym, subst}
use Rattle.tup_rule.specs.declared.question.Reading.{Reading}
use Rattle.tup_refresh.specs.Found.{HasFound}
use Rattle.tup_refresh.specs.Refresh.{kept_reading}
use Rattle.tup_refresh.proofs.Finding.{found_anew}
use Rattle.tup_refresh.proofs.found.find.Goals as goal

pub returns-in-Some-clause-found : goal.returns-in-Some-clause-found
returns-in-Some-clause-found c = λ sources part has trues.
    let a = c.args in
    subst (λ (kept : Option Reading). HasFound sources a.settings.now a.readings.now a.dir.now kept c.find_again.result) c.in-Some.ensures
    (c.find_again.ensures.found sources part has (trues c.in-Some.reading.now (sym c.in-Some.ensures)))

pub returns-in-None-clause-found : goal.returns-in-None-clause-found
returns-in-None-clause-found c = λ sources part has trues.
    let a = c.args in
    found_anew sources a.settings.now a.readings.now a.dir.now (kept_reading a.nodes.now a.dir.now) c.read_anew.result (inl (sym c.in-None.ensures)) (c.read_anew.ensures.found sources part has)
