use Rattle.std.proofs.Common.{◌∙◌, ap}
use Rattle.std.specs.Cmp.Lexicographic.{nat_list_cmp_total}
use Rattle.std.specs.FinMap as finite
use Rattle.std.specs.FinMap.{slice_cmp-IsAntisymmetric, nat_cmp-IsAntisymmetric}
use Rattle.tup_path.proofs.Maps.{from_entries-set}
use Rattle.tup_strace.proofs.by_process.ByProcess.put.Goals as goal

pub returns : goal.returns
returns c =
    from_entries-set nat_list_cmp_total (slice_cmp-IsAntisymmetric nat_cmp-IsAntisymmetric) c.self.inside.map.entries c.insert.new.self.entries c.args.process c.args.text c.in_ok-insert.ensures.updates.0
    ∙ ap (λ m. finite.insert m c.args.process c.args.text) c.self.view_is
