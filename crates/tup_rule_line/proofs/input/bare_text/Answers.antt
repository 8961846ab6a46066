use Rattle.std.proofs.Common.{◌≡◌, subst, ap, ◌∙◌}
use Rattle.tup_flags.specs.declared.parts.FlagParts.{FlagParts}
use Rattle.tup_rule_line.specs.Flagged.{bare_parts, flagged_text}
use Rattle.tup_query.specs.Went.{Gives}
use Rattle.tup_rule_line.proofs.input.bare_text.Goals as goal

pub returns : goal.returns
returns c =
    let a = c.args in
    let parts : c.in_ok-parts.parts ≡ bare_parts a.at.now.dir = c.in_ok-parts.ensures ∙ ap bare_parts c.dir.ensures in
    subst (λ (f : FlagParts). Gives (flagged_text a.at.now f a.word.now) c.flagged_text.result) parts c.flagged_text.ensures
