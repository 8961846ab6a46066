use Rattle.std.proofs.Common.{◌∙◌, ap}
use Rattle.std.specs.FinMap as finite
use Rattle.tup_path.specs.Order.{by_names-total, by_names-antisymmetric}
use Rattle.tup_path.proofs.Maps.{from_entries-set}
use Rattle.tup_path.proofs.by_path.ByPath.insert.Goals as goal

pub returns-clause-ok : goal.returns-clause-ok
returns-clause-ok g c =
    from_entries-set by_names-total by_names-antisymmetric c.self.inside.map.entries c.insert.new.self.entries c.args.path c.args.value c.in_ok-insert.ensures.updates.0
    ∙ ap (λ m. finite.insert m c.args.path c.args.value) c.self.view_is
