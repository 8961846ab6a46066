-- Who reads what the reached rules make (own).
use Rattle.std.specs.Prelude.{◌≡◌, ◌⊎◌, ℕ, ◌<◌, ◌≤◌, ◌==◌, ◌&&◌, if◌then◌else◌, Bool, true, List, length, None, Some, slice_get}
use Rattle.std.specs.BTreeMap.{get}
use Rattle.std.specs.BTreeSet.{BTreeSet, contains}
use Rattle.std.specs.List.{list_any}
use Rattle.std.specs.Option.{option_or}
use Rattle.tup_path.specs.Name.{Names}
use Rattle.tup_path.specs.Order.{by_names}
use Rattle.tup_rule.specs.declared.rule.Rule.{Rule}
use Rattle.tup_rule.specs.Makers.{MakerMap, producers_in}
use Rattle.tup_rule.specs.Producer.{MakesFor}
use Rattle.tup_rule.specs.Rule.{among, maker}
use Rattle.tup_clean.specs.Queue.{count_of}
use Rattle.tup_core.specs.Sound.{IsMadeBy}
use Rattle.tup_core.specs.Waiting.{flag, times}

-- a rule has those alone in its list that declare what it makes
abbrev pub AreSound : List Rule → List (List ℕ) → Type 0
AreSound rules lists = (other at : ℕ) → 0 < times lists other at → (rule : Rule) × (slice_get rules at ≡ Some rule) × MakesFor rules rule other

-- and each rule has all of these
abbrev pub AreWhole : List Rule → List (List ℕ) → Type 0
AreWhole rules lists = (other at : ℕ) (rule : Rule) → other < length rules → slice_get rules at ≡ Some rule → MakesFor rules rule other → 0 < times lists other at

-- the flag of each rule in some lists is up
abbrev pub AreUp : List (List ℕ) → List Bool → Type 0
AreUp lists flags = (other at : ℕ) → 0 < times lists other at → flag flags at ≡ true

-- for each rule some of its readers, and all for those that were reached
pub record AreNear (rules : List Rule) (reached : List Bool) (lists : List (List ℕ)) : Type 0 where
  pub many : length lists ≡ length rules
  pub sound : AreSound rules lists
  pub first : (other at : ℕ) (rule : Rule) → flag reached other ≡ true → slice_get rules at ≡ Some rule → MakesFor rules rule other → 0 < times lists other at

-- the same, where only reached rules read of any; or the readers of all rules
pub record AreLinks (rules : List Rule) (reached : List Bool) (lists : List (List ℕ)) : Type 0 where
  pub near : AreNear rules reached lists
  pub others : AreUp lists reached ⊎ AreWhole rules lists

-- whether a number is one of these
abbrev pub is_one_of : List ℕ → ℕ → Bool
is_one_of numbers at = list_any (λ number. at == number) numbers

-- numbers are the places of rules
abbrev pub AreRules : List Rule → List ℕ → Type 0
AreRules rules numbers = (at : ℕ) → is_one_of numbers at ≡ true → at < length rules

-- numbers are those of the rules whose flags are up, and of other rules at most
pub record IsReachOf (rules : List Rule) (flags : List Bool) (numbers : List ℕ) : Type 0 where
  pub places : AreRules rules numbers
  pub all : (at : ℕ) → flag flags at ≡ true → is_one_of numbers at ≡ true

-- a path is in a set
abbrev pub IsIn : BTreeSet Names → Names → Type 0
IsIn set path = contains by_names set path ≡ true

-- a set has just the outputs of the rules with some numbers
pub record AreMade (rules : List Rule) (numbers : List ℕ) (set : BTreeSet Names) : Type 0 where
  pub all : (path : Names) → IsMadeBy rules numbers path → IsIn set path
  pub only : (path : Names) → IsIn set path → IsMadeBy rules numbers path

-- a map has a maker of a path
abbrev pub HasMaker : MakerMap → Names → Type 0
HasMaker makers path = (at : ℕ) × (get by_names makers path ≡ Some at)

-- a map that has just the makers of the paths of a set
pub record HasMakersIn (set : BTreeSet Names) (rules : List Rule) (makers : MakerMap) : Type 0 where
  pub each : (path : Names) → get by_names makers path ≡ (if contains by_names set path then maker path rules else None)

-- a map that has one more as the maker of the outputs that are in a set
pub record AddsMakerIn (set : BTreeSet Names) (outputs : List Names) (at : ℕ) (old new : MakerMap) : Type 0 where
  pub each : (path : Names) → get by_names new path ≡ option_or (get by_names old path) (if contains by_names set path && among path outputs then Some at else None)

-- lists in which the first rules stand with those that make by a map what they declare, and no others stand
pub record AreListed (rules : List Rule) (makers : MakerMap) (count : ℕ) (lists : List (List ℕ)) : Type 0 where
  pub many : length lists ≡ length rules
  pub each : (at other : ℕ) (rule : Rule) (list : List ℕ) → at < count → slice_get rules at ≡ Some rule → slice_get lists other ≡ Some list → count_of at list ≡ count_of other (producers_in makers rule)
  pub later : (at other : ℕ) (list : List ℕ) → count ≤ at → slice_get lists other ≡ Some list → count_of at list ≡ 0
