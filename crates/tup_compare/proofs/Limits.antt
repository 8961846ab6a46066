-- A limit of linking is told only where it is passed.
use Rattle.std.proofs.Common.{Err, refl}
use Rattle.tup_path.specs.Tree.{Tree}
use Rattle.tup_link.specs.declared.fault.LinkFault.TheVariants as linking
use Rattle.tup_link.specs.declared.fault.What.TheVariants.{Commands, Links}
use Rattle.tup_project.specs.Project.{ComeTo}
use Rattle.tup_project.specs.declared.fault.ProjectFault.{ProjectFault}
use Rattle.tup_project.specs.declared.fault.ProjectFault.TheVariants as project
use Rattle.tup_promise.proofs.Limits.{cause_true}
use Rattle.tup_compare.specs.Found.{IsOfRules}
use Rattle.tup_compare.specs.Stopped.{unread_of_project}

pub of_rules : (sources : Tree) (fault : ProjectFault) → ComeTo sources (Err fault) → IsOfRules (unread_of_project fault)
of_rules sources (project.Parse fault) come = tt
of_rules sources (project.CircularDirs dirs) come = tt
of_rules sources (project.NoSuchGroup group) come = tt
of_rules sources (project.CircularCommands names) come = tt
of_rules sources (project.TooMany Commands number) come = cause_true come.0 (linking.TooMany Commands number) come.2
of_rules sources (project.TooMany Links number) come = cause_true come.0 (linking.TooMany Links number) come.2
of_rules sources project.Memory come = refl
