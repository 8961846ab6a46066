-- What is found of a folder, by its cases.
use Rattle.std.proofs.Common.{◌≡◌, Option, Some, Result, Ok, Err, IsTrue, sym, subst}
use Rattle.std.specs.Result.{IfOk}
use Rattle.tup_path.specs.Name.{Names}
use Rattle.tup_path.specs.Tree.{Tree}
use Rattle.tup_rule.specs.declared.question.Reading.{Reading}
use Rattle.tup_vars.specs.Table.{Entries}
use Rattle.tup_readings.specs.Answers.{Readings}
use Rattle.tup_readings.specs.Sources.{has_tupfile}
use Rattle.tup_readings.specs.declared.asked.Stop.{Stop}
use Rattle.tup_readings.specs.declared.asked.Stop.TheVariants.{Awaits, Memory as NoMemory}
use Rattle.tup_readings.specs.State.{HasCome}
use Rattle.tup_readings.specs.declared.fault.FoldersFault.{FoldersFault}
use Rattle.tup_readings.specs.declared.fault.FoldersFault.TheVariants.{Parse, Circular, Memory}
use Rattle.tup_refresh.specs.declared.found.Found.{Found}
use Rattle.tup_refresh.specs.declared.fetched.Fetched.{Fetched}
use Rattle.tup_refresh.specs.declared.found.Found.TheVariants.{Stands, Read, Waits, Lacks}
use Rattle.tup_refresh.specs.Found.{IsFault, HasRead, IsLack, StandsNot, HasFound, come_of}
use Rattle.tup_refresh.specs.Refresh.{IsTrueBeside}
use Rattle.tup_refresh.specs.Standing.{HasCompared}
use Rattle.tup_refresh.proofs.Answering.{reading_waits}

module _ (sources : Tree) (settings : Entries) (readings : Readings) (dir : Names) where
  -- a folder that is read where no kept reading stands
  pub found_anew : (kept : Option Reading) (result : Result Found FoldersFault) → StandsNot sources settings readings dir kept → HasRead sources settings readings dir result → HasFound sources settings readings dir kept result
  found_anew kept (Ok (Stands left)) not read = absurd read
  found_anew kept (Ok (Read left)) not read = (not, read)
  found_anew kept (Ok (Waits next)) not read = read
  found_anew kept (Ok (Lacks path)) not read = read
  found_anew kept (Err fault) not read = read

  -- a fault of reading a folder
  pub fault_of : (fault : FoldersFault) → HasCome sources settings readings dir (Err fault) → IsFault sources settings readings dir fault
  fault_of (Parse fault) come = come
  fault_of (Circular dirs) come = come
  fault_of Memory come = tt

  pub fault_come : (fault : FoldersFault) → IsFault sources settings readings dir fault → HasCome sources settings readings dir (Err fault)
  fault_come (Parse fault) is = is
  fault_come (Circular dirs) is = is
  fault_come Memory is = tt

  -- one who compares stopped
  pub found_stopped : (left : Reading) (stop : Stop) (result : Result Found FoldersFault) → result ≡ come_of stop → IsTrue (has_tupfile sources dir) → IsTrueBeside sources dir left
      → HasCompared sources settings readings dir left.asked (Err stop) → HasFound sources settings readings dir (Some left) result
  found_stopped left (Awaits next) result is has beside up = subst (HasFound sources settings readings dir (Some left)) (sym is) (reading_waits sources settings readings dir left next has beside up)
  found_stopped left NoMemory result is has beside up = subst (HasFound sources settings readings dir (Some left)) (sym is) tt

-- nor does it need a content
pub stopped_lacks : (fetched : Fetched) (stop : Stop) (result : Result Found FoldersFault) → result ≡ come_of stop → IfOk result (IsLack fetched)
stopped_lacks fetched (Awaits next) result is = subst (λ (r : Result Found FoldersFault). IfOk r (IsLack fetched)) (sym is) tt
stopped_lacks fetched NoMemory result is = subst (λ (r : Result Found FoldersFault). IfOk r (IsLack fetched)) (sym is) tt
