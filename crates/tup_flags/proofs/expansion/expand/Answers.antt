use Rattle.std.proofs.Common.{length, ◌≤◌, inl, inr, ◌∙◌, ap}
use Rattle.tup_flags.specs.Laws.{IsLeast, IsTextAlone, StandIn}
use Rattle.tup_flags.specs.Pieces.{text_limit, total}
use Rattle.tup_flags.specs.Expansion.{expand}
use Rattle.tup_flags.proofs.Spelled.{spelled-parts}
use Rattle.tup_flags.proofs.Whole.{carried, is-plain, is-alone, is-least, are-within, is-short}
use Rattle.tup_flags.proofs.expansion.expand.Goals as goal

pub returns-clause-cut : goal.returns-clause-cut
returns-clause-cut c = spelled-parts c.args.text.now

pub returns-clause-plain : goal.returns-clause-plain
returns-clause-plain c = λ plain short.
    elim c.expanded.ensures [
      | inl e ↦ inl e
      | inr e ↦ inr (e ∙ ap (expand c.args.parts.now) c.as_str.ensures.bytes ∙ is-plain c.args.parts.now c.args.text.now plain short)
    ]

pub returns-clause-alone : goal.returns-clause-alone
returns-clause-alone c = λ elsewhere. carried IsTextAlone _ _ c.expanded.ensures (is-alone c.args.parts.now c.as_str.result.now elsewhere)

pub returns-clause-least : goal.returns-clause-least
returns-clause-least c = carried IsLeast _ _ c.expanded.ensures (is-least c.args.parts.now c.as_str.result.now)

pub returns-clause-short : goal.returns-clause-short
returns-clause-short c = carried (λ pieces. total pieces ≤ text_limit) _ _ c.expanded.ensures (is-short c.args.parts.now c.as_str.result.now)

pub returns-clause-groups : goal.returns-clause-groups
returns-clause-groups c = carried (StandIn (length c.args.parts.now.groups)) _ _ c.expanded.ensures (are-within c.args.parts.now c.as_str.result.now)
