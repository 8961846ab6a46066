use Rattle.std.proofs.Common.{◌≡◌, false, not, Option, None, Some, sym, ap, ◌∙◌}
use Rattle.std.specs.Option.{MatchOption, is_some}
use Rattle.tup_update.proofs.Promised.{no_flags}
use Rattle.tup_update.proofs.run.none_flagged.Goals as goal

-- what holds where there is nothing
nothing : {T P : Type 0} (Q : T → Type 0) (found : Option T) → MatchOption found P Q → is_some found ≡ false → P
nothing Q None holds none = holds
nothing Q (Some it) holds none = absurd (cc)

pub returns : goal.returns
returns c = λ none. no_flags c.args.nodes.now (sym c.flags.ensures ∙ (nothing _ c.next.result c.next.ensures.steps (c.is_none.ensures ∙ ap not none)).0)
