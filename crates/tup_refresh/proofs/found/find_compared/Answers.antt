use Rattle.std.proofs.Common.{inr, Bool, Some, Ok, refl, sym, subst}
use Rattle.tup_rule.specs.declared.question.Reading.{Reading}
use Rattle.tup_refresh.specs.Found.{HasFound}
use Rattle.tup_refresh.specs.Standing.{HasCompared}
use Rattle.tup_refresh.specs.declared.found.Found.TheVariants.{Stands}
use Rattle.tup_refresh.proofs.Answering.{reading_stands}
use Rattle.tup_refresh.proofs.Finding.{found_anew}
use Rattle.tup_refresh.proofs.found.find_compared.Goals as goal

pub returns-then-stands-clause-found : goal.returns-then-stands-clause-found
returns-then-stands-clause-found c = λ sources part has beside compared.
    let a = c.args in
    let all = subst (λ (b : Bool). HasCompared sources a.settings.now a.readings.now a.dir.now a.reading.now.asked (Ok b)) c.if-stands.true compared in
    subst (λ (left : Reading). HasFound sources a.settings.now a.readings.now a.dir.now (Some a.reading.now) (Ok (Stands left))) (sym c.in_ok-clone.ensures.cases)
    (refl, all, reading_stands sources a.settings.now a.readings.now a.dir.now a.reading.now beside all)

pub returns-clause-found : goal.returns-clause-found
returns-clause-found c = λ sources part has beside compared.
    let a = c.args in
    let other = subst (λ (b : Bool). HasCompared sources a.settings.now a.readings.now a.dir.now a.reading.now.asked (Ok b)) c.if-stands.false compared in
    found_anew sources a.settings.now a.readings.now a.dir.now (Some a.reading.now) c.read_anew.result (inr (a.reading.now, refl, other)) (c.read_anew.ensures.found sources part has)
