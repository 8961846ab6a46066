use Rattle.std.proofs.Common.{◌∙◌, sym}
use Rattle.tup_scan_diff.proofs.Parented.{no_folder_in}
use Rattle.tup_scan_diff.proofs.present.Present.is_folder_beside.Goals as goal

pub returns-then-not-contains : goal.returns-then-not-contains
returns-then-not-contains c =
    no_folder_in c.args.self.now.index.folders c.args.self.now.parents c.requires.present.1.parents c.args.reader.now c.args.path.now c.requires.inside (sym c.contains.ensures ∙ c.if-not-contains.true)
