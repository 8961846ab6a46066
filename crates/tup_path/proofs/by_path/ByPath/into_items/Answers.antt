use Rattle.std.proofs.Common.{◌≡◌, ◌∙◌, ap, sym}
use Rattle.std.specs.FinMap as finite
use Rattle.std.proofs.lemmas.Iterator.{items_from_collect}
use Rattle.std.proofs.lemmas.Iterator.Consumers.{YieldsList-from_rest}
use Rattle.tup_path.specs.Order.{by_names-total}
use Rattle.tup_path.proofs.Maps.{entries-of_sorted}
use Rattle.tup_path.proofs.by_path.ByPath.into_items.Goals as goal

pub returns : goal.returns
returns g c =
    let gives = c.into_iter.ensures.into_iter_gives in
    let collected = items_from_collect _ c.collect.ensures.ran (YieldsList-from_rest c.self.inside.map.entries gives.0) in
    let items : c.in_ok-collect.field-0.items ≡ c.self.inside.map.entries = rw c.in_ok-collect.was at collected in
    c.from_vec.ensures ∙ items ∙ sym (entries-of_sorted by_names-total c.self.inside.map.entries gives.5) ∙ ap finite.entries c.self.view_is
