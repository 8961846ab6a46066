use Rattle.std.proofs.Common.{ap, ◌∙◌, sym}
use Rattle.std.specs.List.{list_any}
use Rattle.tup_rule_line.specs.Below.{is_below}
use Rattle.tup_rule_line.specs.Making.{made_by}
use Rattle.tup_rule_line.proofs.Below.{pass_alike, made_among}
use Rattle.tup_rule_line.proofs.made.Made.has_below.Goals as goal

pub returns : goal.returns
returns c =
    let made = c.self.inside in
    c.has_below.ensures ∙ pass_alike (is_below c.args.path.now) made.outputs (made_by made.drafts) (λ path. c.self.invariant path ∙ sym (made_among made.drafts path))
    ∙ ap (λ drafts. list_any (is_below c.args.path.now) (made_by drafts)) c.self.view_is
