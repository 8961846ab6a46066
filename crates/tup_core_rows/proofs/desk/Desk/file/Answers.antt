use Rattle.std.proofs.Common.{List, None, sym, ap, ◌∙◌}
use Rattle.tup_path.specs.Name.{Names}
use Rattle.tup_stamp.specs.declared.Stamp.{Stamp}
use Rattle.tup_core.specs.Step.{with_stamps}
use Rattle.tup_core.proofs.Entries.{stamps_of_entries}
use Rattle.tup_core_rows.proofs.desk.Desk.file.Goals as goal

pub file-requires : goal.file-requires
file-requires c =
    c.at_first.ensures ∙ sym (stamps_of_entries c.args.self.now.files c.args.path.now)
    ∙ sym (ap (λ (files : List (Names × Stamp)). with_stamps (λ _. None) files c.args.path.now) c.args.self.now.of_files)
