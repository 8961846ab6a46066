use Rattle.std.proofs.Common.{sym, subst, ◌∙◌}
use Rattle.std.specs.FinMap as finite
use Rattle.tup_scan.proofs.Keys.{keys_are_files}
use Rattle.tup_scan.specs.Seen.{AreFiles}
use Rattle.tup_scan_crew.proofs.scanning.scan_by.Goals as goal

pub stamps_of-requires-clause-files : goal.stamps_of-requires-clause-files
stamps_of-requires-clause-files g c κs within = λ tells.
    subst (AreFiles (g.S.Site.world c.list.new.self).tree)
    (sym (c.into_vec.ensures ∙ c.in_ok-paths.ensures.paths tells ∙ (λ i. finite.keys (sym (c.in_ok-paths.ensures.same tells) i).tree)))
    (keys_are_files (g.S.Site.world c.list.new.self).tree)
