use Rattle.std.proofs.Common.{◌∙◌, List, sym, subst}
use Rattle.tup_rule.specs.declared.question.Noted.{Noted}
use Rattle.tup_rule.specs.declared.question.Question.{Question}
use Rattle.tup_scan_diff.specs.Told.{AreToldSo, IsToldOtherwise, Tells}
use Rattle.tup_scan_diff.proofs.Staled.{outdated_decides}
use Rattle.tup_scan_diff.proofs.present.Present.is_outdated.Goals as goal

pub all_stand-requires-clause-tupfile : goal.all_stand-requires-clause-tupfile
all_stand-requires-clause-tupfile c = sym c.contains.ensures ∙ c.if-not-contains.false

pub returns-clause-outdated : goal.returns-clause-outdated
returns-clause-outdated c = λ config is.
    outdated_decides config c.args.self.now c.args.dir.now c.args.reading.now c.in_ok-all_stand.field-0 (sym c.contains.ensures ∙ c.if-not-contains.false)
    (subst (λ (l : List (Question × Noted)). Tells c.in_ok-all_stand.field-0 (AreToldSo config c.args.self.now c.args.dir.now l) (IsToldOtherwise config c.args.self.now c.args.dir.now l)) c.as_slice.ensures (c.in_ok-all_stand.ensures.stand config is))
