-- The faults of a project: those of reading its folders, and those of linking what they read as (own).
use Rattle.std.specs.Prelude.{◌≡◌, List}
use Rattle.tup_path.specs.Name.{Names}
use Rattle.tup_lex.specs.declared.kind.ParseKind.TheVariants.{DuplicateCommand}
use Rattle.tup_rule.specs.declared.question.Reading.{Reading}
use Rattle.tup_readings.specs.declared.fault.FoldersFault.{FoldersFault}
use Rattle.tup_readings.specs.declared.fault.FoldersFault.TheVariants as folders
use Rattle.tup_link.specs.declared.fault.LinkFault.{LinkFault}
use Rattle.tup_link.specs.declared.fault.LinkFault.TheVariants as linking
use Rattle.tup_link.specs.Faults.{HasCause}
use Rattle.tup_project.specs.declared.fault.ProjectFault.{ProjectFault}
use Rattle.tup_project.specs.declared.fault.ProjectFault.TheVariants.{Parse, CircularDirs, CircularCommands, NoSuchGroup, TooMany, Memory}

-- a fault of reading the folders, as one of the project
abbrev pub of_folders : FoldersFault → ProjectFault
of_folders (folders.Parse fault) = Parse fault
of_folders (folders.Circular dirs) = CircularDirs dirs
of_folders folders.Memory = Memory

-- a fault of linking, as one of the project: a command that stands twice is a fault of its file
abbrev pub of_linking : LinkFault → ProjectFault
of_linking (linking.TooMany what number) = TooMany what number
of_linking (linking.NoSuchGroup group) = NoSuchGroup group
of_linking (linking.DuplicateCommand dir file line) = Parse (record { dir = dir; file = file; line = line; kind = DuplicateCommand })
of_linking (linking.CircularCommands names) = CircularCommands names
of_linking linking.Memory = Memory

-- a fault of linking these readings, as one of the project, with its cause
abbrev pub IsOfLinking : List (Names × Reading) → ProjectFault → Type 0
IsOfLinking readings told = (fault : LinkFault) × HasCause readings fault × (told ≡ of_linking fault)
