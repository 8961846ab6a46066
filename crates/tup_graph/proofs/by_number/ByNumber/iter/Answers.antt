use Rattle.std.proofs.Common.{◌∙◌, ap, sym}
use Rattle.std.specs.FinMap as finite
use Rattle.std.specs.Cmp.{nat_cmp_total}
use Rattle.tup_path.proofs.Maps.{entries-of_sorted}
use Rattle.tup_graph.proofs.by_number.ByNumber.iter.Goals as goal

pub returns : goal.returns
returns g c =
    c.iter.ensures.rest
    ∙ sym (entries-of_sorted nat_cmp_total c.self.inside.map.entries c.iter.ensures.ordered)
    ∙ ap finite.entries c.self.view_is
