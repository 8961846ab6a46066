use Rattle.std.proofs.Common.{◌≡◌, sym, subst, ◌∙◌}
use Rattle.std.proofs.lemmas.Bool.{true≢false}
use Rattle.std.proofs.lemmas.List.Elements.{All-nil}
use Rattle.std.proofs.lemmas.Result.{err_from_is_err_and}
use Rattle.tup_rule.specs.declared.question.Noted.{Noted}
use Rattle.tup_rule.specs.declared.question.Question.{Question}
use Rattle.tup_readings.specs.Answers.{awaited}
use Rattle.tup_readings.specs.Asked.{IsWait}
use Rattle.tup_refresh.specs.Standing.{Stands, IsOther}
use Rattle.tup_refresh.proofs.Answering.{stand_more, stand_all, one_other, ends_there}
use Rattle.tup_refresh.proofs.standing.all_stand.Goals as goal

-- a question and what was told, as the two parts of one
both : (question : Question) (noted : Noted) (one : Question × Noted) → question ≡ one.0 → noted ≡ one.1 → (question, noted) ≡ one
both question noted one asks told = λ i. (asks i, told i)

pub loop-one-init : goal.loop-one-init
loop-one-init c = λ sources paths sees.
    let asked = c.args.asked.now in
    All-nil (Stands sources asked.settings.now asked.readings.now asked.reader.now)

pub loop-one-preserved : goal.loop-one-preserved
loop-one-preserved c = λ sources paths sees.
    let asked = c.args.asked.now in
    let one = c.one-item.result in
    stand_more sources asked.settings.now asked.readings.now asked.reader.now c.args.told.now c.loop-one.one-index one one c.loop-one-test.true c.one-item.is (c.loop-one.invariant sources paths sees)
    (subst (Stands sources asked.settings.now asked.readings.now asked.reader.now) (both c.question.result.now c.noted.result.now one c.question.ensures c.noted.ensures)
    (c.in_ok-stands.ensures.ready sources paths, (c.in_ok-stands.ensures.stands sources paths sees).0 c.if-not-stands.false))

pub returns : goal.returns
returns c = λ sources paths sees.
    let asked = c.args.asked.now in
    stand_all sources asked.settings.now asked.readings.now asked.reader.now c.args.told.now c.loop-one.one-index c.loop-one-test.false (c.loop-one.invariant sources paths sees)

pub returns-then-not-stands : goal.returns-then-not-stands
returns-then-not-stands c = λ sources paths sees.
    let asked = c.args.asked.now in
    let one = c.one-item.result in
    one_other sources asked.settings.now asked.readings.now asked.reader.now c.args.told.now c.loop-one.one-index one one c.loop-one-test.true c.one-item.is
    (subst (IsOther sources asked.settings.now asked.readings.now asked.reader.now) (both c.question.result.now c.noted.result.now one c.question.ensures c.noted.ensures)
    (c.in_ok-stands.ensures.ready sources paths, λ so. true≢false (sym ((c.in_ok-stands.ensures.stands sources paths sees).1 so) ∙ c.if-not-stands.true)))

pub returns-in_err-stands : goal.returns-in_err-stands
returns-in_err-stands c = λ sources paths sees.
    let asked = c.args.asked.now in
    let one = c.one-item.result in
    let p = err_from_is_err_and c.from_residual.result c.from_residual.ensures.1 in
    rw (p.1, p.2) (ends_there sources asked.settings.now asked.readings.now asked.reader.now c.args.told.now c.loop-one.one-index one one c.in_err-stands.field-0.0 c.loop-one-test.true c.one-item.is (c.loop-one.invariant sources paths sees) (subst (λ (q : Question). IsWait (awaited sources asked.readings.now asked.reader.now q) c.in_err-stands.field-0.0) c.question.ensures (c.in_err-stands.ensures.waits sources paths)))
