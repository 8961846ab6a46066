use Rattle.std.proofs.Common.{◌∙◌, ap}
use Rattle.std.specs.FinMap as finite
use Rattle.std.specs.Cmp.{nat_cmp_total}
use Rattle.std.specs.FinMap.{nat_cmp-IsAntisymmetric}
use Rattle.tup_path.proofs.Maps.{from_entries-set}
use Rattle.tup_graph.proofs.by_number.ByNumber.insert.Goals as goal

pub returns-clause-ok : goal.returns-clause-ok
returns-clause-ok g c =
    from_entries-set nat_cmp_total nat_cmp-IsAntisymmetric c.self.inside.map.entries c.insert.new.self.entries c.args.number c.args.value c.in_ok-insert.ensures.updates.0
    ∙ ap (λ m. finite.insert m c.args.number c.args.value) c.self.view_is
