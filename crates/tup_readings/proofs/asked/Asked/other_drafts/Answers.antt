use Rattle.std.proofs.Common.{◌≡◌, true, false, not, ◌&&◌, cond, List, [], Option, Some, None, sym, ap, ◌∙◌}
use Rattle.std.specs.Prelude.{is_none}
use Rattle.std.specs.FinMap as finite
use Rattle.tup_path.specs.Order.{same_path}
use Rattle.tup_rule.specs.declared.draft.Draft.{Draft}
use Rattle.tup_rule.specs.declared.question.Reading.{Reading}
use Rattle.tup_readings.specs.Answers.{drafts_of}
use Rattle.tup_readings.specs.Sources.{has_tupfile}
use Rattle.tup_readings.proofs.Waits.{unread_waits}
use Rattle.tup_readings.proofs.asked.Asked.other_drafts.Goals as goal

pub returns-then-eq-clause-seen : goal.returns-then-eq-clause-seen
returns-then-eq-clause-seen c =
    let self = c.args.self.now in
    let own : same_path self.reader.now c.args.home.now ≡ true = sym c.eq.ensures ∙ c.if-eq.true in
    sym (ap (λ b. cond b [] (drafts_of self.readings.now c.args.home.now)) own)

pub returns-then-eq-clause-ready : goal.returns-then-eq-clause-ready
returns-then-eq-clause-ready c =
    let self = c.args.self.now in
    let home = c.args.home.now in
    let own : same_path self.reader.now home ≡ true = sym c.eq.ensures ∙ c.if-eq.true in
    ap (λ b. cond (not b && has_tupfile self.sources.now home && is_none (finite.get self.readings.now home)) (Some home) None) own

pub returns-in-Some-clause-seen : goal.returns-in-Some-clause-seen
returns-in-Some-clause-seen c =
    let self = c.args.self.now in
    let home = c.args.home.now in
    let own : same_path self.reader.now home ≡ false = sym c.eq.ensures ∙ c.if-eq.false in
    c.as_slice.ensures
    ∙ ap (λ (found : Option Reading). elim found as (λ _. List Draft) [ Some reading ↦ reading.drafts | None ↦ [] ]) c.in-Some.ensures
    ∙ sym (ap (λ b. cond b [] (drafts_of self.readings.now home)) own)

pub returns-in_ok-clone-in-None-clause-waits : goal.returns-in_ok-clone-in-None-clause-waits
returns-in_ok-clone-in-None-clause-waits c =
    let self = c.args.self.now in
    let home = c.args.home.now in
    let own : same_path self.reader.now home ≡ false = sym c.eq.ensures ∙ c.if-eq.false in
    unread_waits self.sources.now self.readings.now self.reader.now home
    (record { apart = own; has = sym c.has_tupfile.ensures ∙ c.if-has_tupfile.true; none = sym c.in-None.ensures })
    ∙ ap (λ d. Some d) (sym c.in_ok-clone-in-None.ensures.cases)
