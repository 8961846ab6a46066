use Rattle.std.proofs.Common.{◌∙◌, ap}
use Rattle.std.specs.FinMap as finite
use Rattle.tup_path.specs.Order.{by_names-total, by_names-antisymmetric}
use Rattle.tup_path.proofs.Maps.{from_entries-unset}
use Rattle.tup_path.proofs.by_path.ByPath.remove.Goals as goal

pub returns : goal.returns
returns g c =
    from_entries-unset by_names-total by_names-antisymmetric c.self.inside.map.entries c.remove.new.self.entries c.args.path.now c.remove.ensures.updates.0
    ∙ ap (λ m. finite.remove m c.args.path.now) c.self.view_is
