use Rattle.std.proofs.Common.{◌∙◌, sym, subst}
use Rattle.std.proofs.lemmas.Bool.{true≢false}
use Rattle.tup_rule.specs.declared.question.Noted.{Noted}
use Rattle.tup_rule.specs.declared.question.Question.{Question}
use Rattle.tup_scan_diff.specs.Told.{IsToldSo}
use Rattle.tup_scan_diff.proofs.Staled.{all_told_so, told_more, told_otherwise}
use Rattle.tup_scan_diff.proofs.present.Present.all_stand.Goals as goal

pub loop-one-preserved : goal.loop-one-preserved
loop-one-preserved c = λ config is.
    let one = c.one-item.result in
    told_more config c.args.self.now c.args.reader.now c.args.asked.now c.loop-one.one-index one one c.loop-one-test.true c.one-item.is (c.loop-one.invariant config is)
    (subst (λ (q : Question). IsToldSo config c.args.self.now c.args.reader.now q one.1) c.question.ensures
    (subst (λ (n : Noted). IsToldSo config c.args.self.now c.args.reader.now c.question.result.now n) c.noted.ensures ((c.in_ok-stands.ensures.stands config is).0 c.if-not-stands.false)))

pub returns-clause-stand : goal.returns-clause-stand
returns-clause-stand c = λ config is.
    all_told_so config c.args.self.now c.args.reader.now c.args.asked.now c.loop-one.one-index c.loop-one-test.false (c.loop-one.invariant config is)

pub returns-then-not-stands-clause-stand : goal.returns-then-not-stands-clause-stand
returns-then-not-stands-clause-stand c = λ config is.
    let one = c.one-item.result in
    told_otherwise config c.args.self.now c.args.reader.now c.args.asked.now c.loop-one.one-index one one c.loop-one-test.true c.one-item.is
    (λ so.
    let given : IsToldSo config c.args.self.now c.args.reader.now c.question.result.now c.noted.result.now =
    subst (λ (q : Question). IsToldSo config c.args.self.now c.args.reader.now q c.noted.result.now) (sym c.question.ensures) (subst (λ (n : Noted). IsToldSo config c.args.self.now c.args.reader.now one.0 n) (sym c.noted.ensures) so) in
    true≢false (sym ((c.in_ok-stands.ensures.stands config is).1 given) ∙ c.if-not-stands.true))
