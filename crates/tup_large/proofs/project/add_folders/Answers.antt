use Rattle.tup_large.specs.Project.{files_in, folder_name}
use Rattle.tup_large.proofs.Each.{one_more}
use Rattle.tup_large.proofs.project.add_folders.Goals as goal

pub loop-number-preserved : goal.loop-number-preserved
loop-number-preserved c =
    one_more (λ number. files_in (folder_name number)) c.loop-number.number c.args.files.now.items c.loop-number.files.items c.add_folder.new.files.items c.loop-number.invariant c.in_ok-add_folder.ensures
