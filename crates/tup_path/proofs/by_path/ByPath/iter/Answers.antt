use Rattle.std.proofs.Common.{◌∙◌, ap, sym}
use Rattle.std.specs.FinMap as finite
use Rattle.tup_path.specs.Order.{by_names-total}
use Rattle.tup_path.proofs.Maps.{entries-of_sorted}
use Rattle.tup_path.proofs.by_path.ByPath.iter.Goals as goal

pub returns : goal.returns
returns g c =
    c.iter.ensures.rest
    ∙ sym (entries-of_sorted by_names-total c.self.inside.map.entries c.iter.ensures.ordered)
    ∙ ap finite.entries c.self.view_is
