use Rattle.std.proofs.Common.{List, ℕ, sym, subst}
use Rattle.tup_rule_line.specs.Cut.{IsCut}
use Rattle.tup_rule_line.proofs.Globs.{matched-cut}
use Rattle.tup_rule_line.proofs.glob_word.matched_text.Goals as goal

pub text_at-requires : goal.text_at-requires
text_at-requires c =
    let a = c.args in
    subst (λ (text : List ℕ). IsCut text c.in-Some.span) (sym c.as_str.ensures.bytes) (matched-cut a.glob.now a.name.now c.in-Some.span c.as_str.ensures.utf8 c.in-Some.ensures.cut)
