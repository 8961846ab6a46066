-- What is blamed where an update stops for its sources: a rule whose command comes to a bad verdict, a fault for which they ask
-- for no rules, the first file of the user's in the way, or a file that is too large to be read (own).
use Rattle.std.specs.Prelude.{◌≡◌, ◌⊎◌, ⊤, ℕ, length, List, Option, None, Some, Err, Contains, slice_get}
use Rattle.std.specs.FinMap as finite
use Rattle.tup_path.specs.Name.{Names}
use Rattle.tup_path.specs.Tree.{Tree}
use Rattle.tup_site.specs.Cause.{IsTooLarge}
use Rattle.tup_site.specs.World.{World}
use Rattle.tup_site.specs.declared.fault.SiteFailed.TheVariants.{Fault, TooLarge, Memory}
use Rattle.tup_rule.specs.declared.rule.Rule.{Rule}
use Rattle.tup_rule.specs.declared.rule.RuleName.{RuleName}
use Rattle.tup_runner.specs.Next.{Next}
use Rattle.tup_access.specs.declared.verdict.Verdict.{Verdict}
use Rattle.tup_clean.specs.Clean.{clean}
use Rattle.tup_project.specs.Project.{ComeTo}
use Rattle.tup_project.specs.declared.fault.ProjectFault.{ProjectFault}
use Rattle.tup_ledger.specs.Sources.{sources_of}
use Rattle.tup_promise.specs.Kept.{AsksFor, OfGraph}
use Rattle.tup_promise.specs.Needed.{HasName}
use Rattle.tup_promise.specs.Stopped.{stop_of_project}
use Rattle.tup_promise.specs.Users.{IsFirstUsersFile}
use Rattle.tup_promise.specs.declared.fault.SourcesFault.{SourcesFault}
use Rattle.tup_promise.specs.declared.fault.SourcesFault.TheVariants.{TooManyFiles, Parse, CircularDirs, TooManyCommands, NoSuchGroup, TooManyLinks, CircularCommands}
use Rattle.tup_promise.specs.declared.stop.Stop.{Stop}
use Rattle.tup_promise.specs.declared.stop.Stop.TheVariants.{NoStore, BadStore, Sources, UserFile, Bad, Run, Full, Outside}

-- a rule that was run has this verdict in the clean build of the sources
pub record IsBadRule (next : Next) (w : World) (ran : List RuleName) (name : RuleName) (verdict : Verdict) : Type 0 where
  pub was_run : Contains ran name
  pub rules : List Rule
  pub asked : AsksFor w rules
  pub at : ℕ
  pub named : HasName rules at name
  pub verdict_is : OfGraph w (λ g. slice_get (clean next rules (sources_of g w.tree)).verdicts at ≡ Some (Some verdict))

-- the sources of a world come to a fault that is told so
abbrev pub ComesToFault : World → SourcesFault → Type 0
ComesToFault w fault = OfGraph w (λ g. (cause : ProjectFault) × ComeTo (sources_of g w.tree) (Err cause) × (stop_of_project cause ≡ Sources fault))

-- the sources ask for no rules, for this fault; of too many files all are counted
abbrev pub IsFaultOf : World → SourcesFault → Type 0
IsFaultOf w (TooManyFiles number) = length (finite.keys w.tree) ≡ number
IsFaultOf w (Parse fault) = ComesToFault w (Parse fault)
IsFaultOf w (CircularDirs dirs) = ComesToFault w (CircularDirs dirs)
IsFaultOf w (TooManyCommands number) = ComesToFault w (TooManyCommands number)
IsFaultOf w (NoSuchGroup group) = ComesToFault w (NoSuchGroup group)
IsFaultOf w (TooManyLinks number) = ComesToFault w (TooManyLinks number)
IsFaultOf w (CircularCommands rules) = ComesToFault w (CircularCommands rules)

-- some file of a tree has so many bytes
abbrev pub HasFileOf : ℕ → Tree → Type 0
HasFileOf bytes tree = (path : Names) × IsTooLarge tree path bytes

-- Who is blamed where an update that led from one world to another stops for its sources, or for a file. One that is too large
-- was there when it began, or is there now.
abbrev pub IsToBlame : Next → World → World → List RuleName → Option Stop → Type 0
IsToBlame next w now ran None = ⊤
IsToBlame next w now ran (Some NoStore) = ⊤
IsToBlame next w now ran (Some (BadStore offset)) = ⊤
IsToBlame next w now ran (Some (Sources fault)) = IsFaultOf w fault
IsToBlame next w now ran (Some (UserFile path written found)) = IsFirstUsersFile w path written found
IsToBlame next w now ran (Some (Bad name verdict)) = IsBadRule next w ran name verdict
IsToBlame next w now ran (Some Run) = ⊤
IsToBlame next w now ran (Some Full) = ⊤
IsToBlame next w now ran (Some (Outside Fault)) = ⊤
IsToBlame next w now ran (Some (Outside (TooLarge bytes))) = HasFileOf bytes w.tree ⊎ HasFileOf bytes now.tree
IsToBlame next w now ran (Some (Outside Memory)) = ⊤
