-- What is told of the faults of folders and of linking.
use Rattle.std.proofs.Common.{inl, inr, List, Result, Ok, Err, refl}
use Rattle.std.specs.Result.{IfErr, IfOk}
use Rattle.tup_path.specs.Name.{Names}
use Rattle.tup_path.specs.Tree.{IsTree, Tree}
use Rattle.tup_rule.specs.declared.question.Reading.{Reading}
use Rattle.tup_rule.specs.declared.rule.Rule.{Rule}
use Rattle.tup_clean.specs.Buildable.{IsBuildable}
use Rattle.tup_readings.specs.declared.fault.FoldersFault.{FoldersFault}
use Rattle.tup_readings.specs.declared.fault.FoldersFault.TheVariants as folders
use Rattle.tup_readings.specs.Readings.{IsOutcome}
use Rattle.tup_link.specs.declared.fault.LinkFault.{LinkFault}
use Rattle.tup_link.specs.declared.fault.LinkFault.TheVariants as linking
use Rattle.tup_link.specs.Faults.{HasCause}
use Rattle.tup_project.specs.Fault.{of_folders, of_linking}
use Rattle.tup_project.specs.Project.{AreLinked, ComeTo}
use Rattle.tup_project.specs.declared.fault.ProjectFault.{ProjectFault}

module _ (sources : Tree) where
  pub folders_told : (fault : FoldersFault) → IsOutcome sources (Err fault) → ComeTo sources (Err (of_folders fault))
  folders_told (folders.Parse fault) is = inl is
  folders_told (folders.Circular dirs) is = is
  folders_told folders.Memory is = tt

  pub linking_told : (readings : List (Names × Reading)) (fault : LinkFault) → IsOutcome sources (Ok readings) → HasCause readings fault → ComeTo sources (Err (of_linking fault))
  linking_told readings (linking.TooMany what number) read cause = (readings, read, cause)
  linking_told readings (linking.NoSuchGroup group) read cause = (readings, read, cause)
  linking_told readings (linking.DuplicateCommand dir file line) read cause = inr (refl, (readings, read, cause))
  linking_told readings (linking.CircularCommands names) read cause = (readings, read, cause)
  linking_told readings linking.Memory read cause = tt

  -- what comes of linking these readings is what comes of the sources
  pub all_told : (readings : List (Names × Reading)) (result : Result (List Rule) ProjectFault) → IsOutcome sources (Ok readings) → IfOk result (AreLinked readings)
      → IfErr result (λ fault. (of : Tree) → IsOutcome of (Ok readings) → ComeTo of (Err fault)) → ComeTo sources result
  all_told readings (Ok rules) read linked fault = (readings, read, linked)
  all_told readings (Err why) read linked fault = fault sources read

  pub all_stand : (readings : List (Names × Reading)) (result : Result (List Rule) ProjectFault) → IsOutcome sources (Ok readings)
      → IfOk result (λ rules. (of : Tree) → IsOutcome of (Ok readings) → IsTree of → IsBuildable of rules) → IfOk result (λ rules. IsTree sources → IsBuildable sources rules)
  all_stand readings (Ok rules) read stand = stand sources read
  all_stand readings (Err why) read stand = tt
