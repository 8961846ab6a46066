-- Numbers beside prints, in 256 lists (own).
use Rattle.std.specs.Prelude.{◌≡◌, ◌⊎◌, ◌%◌, ◌^◌, ℕ, true, List, [], Contains, fold, slice_index_or}
use Rattle.std.specs.Hash.FoldHasher as folding
use Rattle.tup_path.specs.Name.{Names}
use Rattle.tup_rule.specs.Rule.{declares, writes}
use Rattle.tup_rule.specs.declared.rule.Rule.{Rule}
use Rattle.tup_record.specs.declared.run.RunRecord.{RunRecord}

-- the print of a path: 32 bits of a hash of its names
abbrev pub print_of : Names → ℕ
print_of path = folding.finish (fold folding.write folding.initial path) % 2 ^ 32

-- lists of prints, each with a number beside it; a print stands in the list of its last byte
abbrev pub Lists : Type 0
Lists = List (List (ℕ × ℕ))

-- the list of a print
abbrev pub list_of : Lists → ℕ → List (ℕ × ℕ)
list_of lists print = slice_index_or lists (print % 256) []

-- a number stands beside a print
abbrev pub StandsBeside : Lists → ℕ → ℕ → Type 0
StandsBeside lists print number = Contains (list_of lists print) (print, number)

-- a rule names a path: it declares it or writes it
abbrev pub IsNamedBy : Rule → Names → Type 0
IsNamedBy rule path = (declares rule path ≡ true) ⊎ (writes rule path ≡ true)

-- a path stands in a list of paths, each with what is told of it
abbrev pub IsIn : {T : Type 0} → List (Names × T) → Names → Type 0
IsIn {T} told path = (one : T) × Contains told (path, one)

-- the record of a run tells of a path: it asks it or wrote it
abbrev pub IsToldBy : RunRecord → Names → Type 0
IsToldBy run path = IsIn run.asks path ⊎ IsIn run.writes path

-- afterwards a number stands beside the prints of such paths, and what stood beside a print before still does
pub record Adds (number : ℕ) (IsOne : Names → Type 0) (old new : Lists) : Type 0 where
  pub kept : (print other : ℕ) → StandsBeside old print other → StandsBeside new print other
  pub added : (path : Names) → IsOne path → StandsBeside new (print_of path) number
