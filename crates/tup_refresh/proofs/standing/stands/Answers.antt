use Rattle.std.proofs.Common.{◌≡◌, ⊎_elim, ap, subst, sym}
use Rattle.std.specs.Bool.{Decides}
use Rattle.tup_rule.specs.Question.{noted as kept_as}
use Rattle.tup_rule.specs.declared.question.Noted.{Noted}
use Rattle.tup_rule.specs.declared.question.Noted.TheVariants as noted
use Rattle.tup_rule.specs.declared.question.Question.{Question}
use Rattle.tup_readings.specs.Answers.{answer, awaited}
use Rattle.tup_refresh.proofs.Outlined.{IsOfPaths, stand_alike, ready_alike, wait_alike}
use Rattle.tup_refresh.proofs.standing.stands.Goals as goal

pub returns-in-Content-clause-stands : goal.returns-in-Content-clause-stands
returns-in-Content-clause-stands c = λ sources paths sees.
    let asked = c.args.asked.now in
    subst (λ (q : Question). Decides c.has_stamp.result (kept_as (answer sources asked.settings.now asked.readings.now asked.reader.now q) ≡ c.args.noted.now)) (sym c.in-Content.is)
    (subst (λ (given : Noted). Decides c.has_stamp.result (given ≡ c.args.noted.now)) (ap (λ s. noted.Content s) (sees c.in-Content.path)) c.has_stamp.ensures)

pub returns-in-Content-clause-ready : goal.returns-in-Content-clause-ready
returns-in-Content-clause-ready c = λ sources paths.
    let asked = c.args.asked.now in
    ap (awaited sources asked.readings.now asked.reader.now) c.in-Content.is

pub returns-in-Config-clause-stands : goal.returns-in-Config-clause-stands
returns-in-Config-clause-stands c = λ sources paths sees.
    let asked = c.args.asked.now in
    stand_alike sources asked.sources.now paths asked.readings.now asked.reader.now asked.settings.now c.args.question.now c.args.noted.now c.is_told.result (⊎_elim (λ one. subst IsOfPaths (sym one.1) tt) (⊎_elim (λ one. subst IsOfPaths (sym one.1) tt) (λ one. subst IsOfPaths (sym one.1) tt)) c.in-Config.is) c.is_told.ensures.told

pub returns-in-Config-clause-ready : goal.returns-in-Config-clause-ready
returns-in-Config-clause-ready c = λ sources paths.
    let asked = c.args.asked.now in
    ready_alike sources asked.sources.now paths asked.readings.now asked.reader.now c.args.question.now c.is_told.result c.is_told.ensures.ready

pub returns-in-Config-clause-waits : goal.returns-in-Config-clause-waits
returns-in-Config-clause-waits c = λ sources paths.
    let asked = c.args.asked.now in
    wait_alike sources asked.sources.now paths asked.readings.now asked.reader.now c.args.question.now c.is_told.result c.is_told.ensures.waits
