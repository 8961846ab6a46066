use Rattle.std.proofs.Common.{◌≡◌, true, false, sym, ap, ◌∙◌}
use Rattle.tup_rule_line.specs.Glob.{is_glob}
use Rattle.tup_query.proofs.Went.{went_along}
use Rattle.tup_rule_line.proofs.Inputs.{text-glob, text-literal}
use Rattle.tup_rule_line.proofs.input.from_text.Goals as goal

pub returns-then-is_glob : goal.returns-then-is_glob
returns-then-is_glob g c =
    let a = c.args in
    let is : is_glob a.text.now ≡ true = ap is_glob (sym c.as_str.ensures.bytes) ∙ sym c.is_glob.ensures ∙ c.if-is_glob.true in
    went_along _ _ (text-glob a.at.now a.drafts.now a.text.now is) c.globbed.ensures

pub returns-else-is_glob : goal.returns-else-is_glob
returns-else-is_glob g c =
    let a = c.args in
    let is : is_glob a.text.now ≡ false = ap is_glob (sym c.as_str.ensures.bytes) ∙ sym c.is_glob.ensures ∙ c.if-is_glob.false in
    went_along _ _ (text-literal a.at.now a.drafts.now a.text.now is) c.literal.ensures
