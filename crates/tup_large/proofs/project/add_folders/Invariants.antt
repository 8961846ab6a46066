use Rattle.std.proofs.Common.{◌≡◌, ◌++◌}
use Rattle.tup_large.specs.Project.{each, files_in, folder_name}
use Rattle.tup_large.proofs.project.add_folders.Given as goal

abbrev pub invariant-loop-number : goal.invariant-loop-number
invariant-loop-number l = l.files.items ≡ l.fn.files.items ++ each (λ number. files_in (folder_name number)) l.number
