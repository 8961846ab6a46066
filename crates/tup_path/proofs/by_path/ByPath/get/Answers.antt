use Rattle.std.proofs.Common.{◌∙◌, ap, sym}
use Rattle.std.specs.FinMap as finite
use Rattle.tup_path.specs.Order.{by_names-total}
use Rattle.tup_path.proofs.Maps.{get-of_entries}
use Rattle.tup_path.proofs.by_path.ByPath.get.Goals as goal

pub returns : goal.returns
returns g c =
    c.get.ensures.value
    ∙ sym (get-of_entries by_names-total c.self.inside.map.entries c.args.path.now)
    ∙ ap (λ m. finite.get m c.args.path.now) c.self.view_is
