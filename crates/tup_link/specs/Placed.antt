-- The drafts of a project: those of all folders, in the order of the folders and of their lines (own).
use Rattle.std.specs.Prelude.{List, map}
use Rattle.std.specs.List.{flat_map}
use Rattle.tup_path.specs.Name.{Names}
use Rattle.tup_rule.specs.declared.draft.Draft.{Draft}
use Rattle.tup_rule.specs.declared.question.Reading.{Reading}

-- a draft, and the folder whose Tupfile it comes from
pub record Placed : Type 0 where
  pub dir : Names
  pub draft : Draft

-- the same by its parts
abbrev pub placed_in : Names → Draft → Placed
placed_in dir draft = record { dir = dir; draft = draft }

-- what the reading of each folder leaves, one behind the other
abbrev pub placed : List (Names × Reading) → List Placed
placed readings = flat_map (λ (read : Names × Reading). map (placed_in read.0) read.1.drafts) readings

-- these without their folders
abbrev pub drafts_of : List Placed → List Draft
drafts_of all = map (λ (one : Placed). one.draft) all
