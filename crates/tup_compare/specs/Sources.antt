-- What a site holds as a comparison sees it: which files are sources, and what these ask for.
use Rattle.std.specs.Prelude.{◌≡◌, ◌<◌, ◌≤◌, not, ℕ, List, length, Result, Ok, Err}
use Rattle.std.specs.FinMap as finite
use Rattle.tup_path.specs.Name.{Names}
use Rattle.tup_path.specs.Tree.{Tree}
use Rattle.tup_rule.specs.declared.rule.Rule.{Rule}
use Rattle.tup_rule.specs.Rule.{among}
use Rattle.tup_runner.specs.Next.{Next}
use Rattle.tup_clean.specs.Clean.{Build, clean}
use Rattle.tup_link.specs.declared.fault.What.TheVariants.{Commands, Links}
use Rattle.tup_project.specs.Project.{ComeTo}
use Rattle.tup_project.specs.declared.fault.ProjectFault.{ProjectFault}
use Rattle.tup_project.specs.declared.fault.ProjectFault.TheVariants as project
use Rattle.tup_site.specs.World.{World}
use Rattle.tup_promise.specs.declared.fault.SourcesFault.{SourcesFault}
use Rattle.tup_promise.specs.declared.fault.SourcesFault.TheVariants.{TooManyFiles, Parse, CircularDirs, TooManyCommands, NoSuchGroup, TooManyLinks, CircularCommands}
use Rattle.tup_compare.specs.Holding.{Holding, Shows}

-- the files of a tree that aren't among some paths
abbrev pub files_beside : List Names → Tree → Tree
files_beside paths tree = finite.retain_keys tree (λ path. not (among path paths))

-- the sources: the files that it doesn't own
abbrev pub sources : Holding → Tree
sources held = files_beside held.owned held.tree

-- the sources come to these rules, or to this fault, and there are no more files than may be read
pub record ReadAs (held : Holding) (result : Result (List Rule) ProjectFault) : Type 0 where
  pub few : length (finite.keys held.tree) ≤ 65536
  pub come_to : ComeTo (sources held) result

-- there are so many files in the tree, too many
pub record HasTooMany (held : Holding) (number : ℕ) : Type 0 where
  pub files : number ≡ length (finite.keys held.tree)
  pub many : 65536 < number

-- the present sources ask for these rules
abbrev pub AsksFor : Holding → List Rule → Type 0
AsksFor held rules = ReadAs held (Ok rules)

-- the present sources ask for no rules, for this fault
abbrev pub Refuses : Holding → SourcesFault → Type 0
Refuses held (TooManyFiles number) = HasTooMany held number
Refuses held (Parse fault) = ReadAs held (Err (project.Parse fault))
Refuses held (CircularDirs dirs) = ReadAs held (Err (project.CircularDirs dirs))
Refuses held (TooManyCommands number) = ReadAs held (Err (project.TooMany Commands number))
Refuses held (NoSuchGroup group) = ReadAs held (Err (project.NoSuchGroup group))
Refuses held (TooManyLinks number) = ReadAs held (Err (project.TooMany Links number))
Refuses held (CircularCommands names) = ReadAs held (Err (project.CircularCommands names))

-- the store of a world reads, and its sources ask for no rules, for this fault
abbrev pub IsRefused : World → SourcesFault → Type 0
IsRefused w fault = (held : Holding) × Shows w held × Refuses held fault

-- the clean build of rules over the present sources, by what a runner means
abbrev pub build : Next → List Rule → Holding → Build
build next rules held = clean next rules (sources held)
