use Rattle.std.proofs.Common.{◌∙◌, sym, refl, subst}
use Rattle.std.specs.Prelude.{Bool, Decides, not}
use Rattle.tup_rule.specs.Rule.{writes}
use Rattle.tup_scan_diff.specs.Turned.{IsToldTurned}
use Rattle.tup_scan_diff.proofs.Folders.{told_file, told_other, told_turned}
use Rattle.tup_scan_diff.proofs.present.Present.is_told_turned.Goals as goal

pub returns-then-is_some : goal.returns-then-is_some
returns-then-is_some c = told_file c.args.self.now c.requires c.args.rule.now c.args.path.now c.args.given (sym c.is_some.ensures ∙ c.if-is_some.true)

pub returns-then-not-contains : goal.returns-then-not-contains
returns-then-not-contains c = told_other c.args.self.now c.requires c.args.rule.now c.args.path.now c.args.given (sym c.contains.ensures ∙ c.if-not-contains.true)

pub returns : goal.returns
returns c =
    let rule = c.args.rule.now in
    let path = c.args.path.now in
    subst (λ (b : Bool). Decides (not b) (IsToldTurned c.args.self.now rule path c.args.given)) (sym c.writes.ensures)
    (told_turned c.args.self.now c.requires rule path c.args.given (sym c.is_some.ensures ∙ c.if-is_some.false) (sym c.contains.ensures ∙ c.if-not-contains.false) (writes rule path) refl)
