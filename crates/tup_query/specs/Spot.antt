-- Where a line stands (own).
use Rattle.std.specs.Prelude.{ℕ, List, [], unwrap_or}
use Rattle.std.specs.Result.{result_ok}
use Rattle.tup_path.specs.Name.{Names}
use Rattle.tup_path.specs.Resolve.{above}
use Rattle.tup_path.specs.Show.{show_from}
use Rattle.tup_lex.specs.declared.kind.ParseKind.{ParseKind}
use Rattle.tup_query.specs.declared.fault.ParseFault.{ParseFault}
use Rattle.tup_query.specs.Reads.{Reads, refuses}

-- a place in a file that is read for a folder
pub record Spot : Type 0 where
  pub dir : Names
  pub file : Names
  pub line : ℕ

-- the same place of a file by its parts
abbrev pub spot : Names → Names → ℕ → Spot
spot dir file line = record { dir = dir; file = file; line = line }

-- a fault at a place
abbrev pub fault_at : Spot → ParseKind → ParseFault
fault_at at kind = record { dir = at.dir; file = at.file; line = at.line; kind = kind }

-- the end with a fault at a place
abbrev pub refused : {A : Type 0} → Spot → ParseKind → Reads ParseFault A
refused at kind = refuses (fault_at at kind)

-- the folder in which a file lies
abbrev pub folder_of : Names → Names
folder_of file = unwrap_or (result_ok (above file)) []

-- what `$(TUP_CWD)` stands for: the way from the folder that is read to the one of the file
abbrev pub cwd : Spot → List ℕ
cwd at = show_from at.dir (folder_of at.file)
