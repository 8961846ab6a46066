use Rattle.std.proofs.Common.{◌∙◌, ap}
use Rattle.std.specs.FinMap as finite
use Rattle.std.specs.Cmp.{nat_cmp_total}
use Rattle.std.specs.FinMap.{nat_cmp-IsAntisymmetric}
use Rattle.tup_path.proofs.Maps.{from_entries-unset}
use Rattle.tup_graph.proofs.by_number.ByNumber.remove.Goals as goal

pub returns : goal.returns
returns g c =
    from_entries-unset nat_cmp_total nat_cmp-IsAntisymmetric c.self.inside.map.entries c.remove.new.self.entries c.args.number.now c.remove.ensures.updates.0
    ∙ ap (λ m. finite.remove m c.args.number.now) c.self.view_is
