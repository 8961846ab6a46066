use Rattle.std.proofs.Common.{◌∙◌, ap, sym}
use Rattle.std.specs.Cmp.Lexicographic.{nat_list_cmp_total}
use Rattle.std.specs.FinMap as finite
use Rattle.tup_path.proofs.Maps.{get-of_entries}
use Rattle.tup_strace.proofs.by_process.ByProcess.get.Goals as goal

pub returns : goal.returns
returns c =
    c.get.ensures.value
    ∙ sym (get-of_entries nat_list_cmp_total c.self.inside.map.entries c.args.process.now)
    ∙ ap (λ m. finite.get m c.args.process.now) c.self.view_is
