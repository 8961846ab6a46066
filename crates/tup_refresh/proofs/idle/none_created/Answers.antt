use Rattle.std.proofs.Common.{List, length, sym, ap, ◌∙◌}
use Rattle.std.specs.FinMap as finite
use Rattle.tup_refresh.proofs.Idling.{ended}
use Rattle.tup_refresh.proofs.idle.none_created.Goals as goal

pub returns : goal.returns
returns c = λ none.
    finite.empty_of_len c.args.nodes.now.created
    (finite.len-entries c.args.nodes.now.created ∙ ap (λ (l : List _). length l) (sym c.created.ensures ∙ (ended c.next.result c.is_none.result _ _ c.is_none.ensures none c.next.ensures.steps).0))
