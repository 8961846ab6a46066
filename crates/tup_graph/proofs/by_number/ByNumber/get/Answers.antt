use Rattle.std.proofs.Common.{◌∙◌, ap, sym}
use Rattle.std.specs.FinMap as finite
use Rattle.std.specs.Cmp.{nat_cmp_total}
use Rattle.tup_path.proofs.Maps.{get-of_entries}
use Rattle.tup_graph.proofs.by_number.ByNumber.get.Goals as goal

pub returns : goal.returns
returns g c =
    c.get.ensures.value
    ∙ sym (get-of_entries nat_cmp_total c.self.inside.map.entries c.args.number.now)
    ∙ ap (λ m. finite.get m c.args.number.now) c.self.view_is
