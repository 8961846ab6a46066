-- Folders from which what their kept readings were told leads to no flagged one (own).
use Rattle.std.specs.Prelude.{◌≡◌, ℕ, zero, suc, false, Some, Contains, option_map}
use Rattle.std.specs.FinMap as finite
use Rattle.tup_path.specs.Name.{Names}
use Rattle.tup_path.specs.Tree.{Tree}
use Rattle.tup_stamp.specs.Stamp.{stamp}
use Rattle.tup_rule.specs.declared.question.Noted.{Noted}
use Rattle.tup_rule.specs.declared.question.Question.{Question}
use Rattle.tup_rule.specs.declared.question.Reading.{Reading}
use Rattle.tup_readings.specs.Answers.{folder_told}
use Rattle.tup_graph.specs.Graph.{GraphState, is_created, source}

-- a graph sees these sources, each with its stamp, and no others
abbrev pub SeesSources : Tree → GraphState → Type 0
SeesSources sources g = (path : Names) → source g path ≡ option_map stamp (finite.get sources path)

-- the kept reading of a folder was told of files that the rules of another one may make
pub record HasAskedOf (sources : Tree) (g : GraphState) (dir other : Names) : Type 0 where
  pub left : Reading
  pub kept : finite.get g.readings dir ≡ Some left
  pub one : Question × Noted
  pub asked : Contains left.asked one
  pub of : folder_told sources one.0 ≡ Some other

-- kept readings lead from a folder to another, over so many folders
abbrev pub LeadsOver : ℕ → Tree → GraphState → Names → Names → Type 0
LeadsOver zero sources g dir last = dir ≡ last
LeadsOver (suc more) sources g dir last = (next : Names) × HasAskedOf sources g dir next × LeadsOver more sources g next last

-- they lead to no flagged one, and the folder isn't flagged
abbrev pub IsUntouched : Tree → GraphState → Names → Type 0
IsUntouched sources g dir = (folders : ℕ) (last : Names) → LeadsOver folders sources g dir last → is_created g last ≡ false
