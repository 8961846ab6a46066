-- Whether what the kept reading of a folder was told is what sources and the readings so far answer (own).
use Rattle.std.specs.Prelude.{◌≡◌, ◌≢◌, Bool, true, false, List, ◌∷◌, ◌++◌, Some, None, Result, Ok, Err, All, Contains}
use Rattle.tup_path.specs.Name.{Names}
use Rattle.tup_path.specs.Tree.{Tree}
use Rattle.tup_rule.specs.Question.{noted as kept_as}
use Rattle.tup_rule.specs.declared.question.Noted.{Noted}
use Rattle.tup_rule.specs.declared.question.Question.{Question}
use Rattle.tup_vars.specs.Table.{Entries}
use Rattle.tup_readings.specs.Answers.{Readings, awaited, answer}
use Rattle.tup_readings.specs.declared.asked.Stop.{Stop}
use Rattle.tup_readings.specs.declared.asked.Stop.TheVariants.{Awaits, Memory}

module _ (sources : Tree) (settings : Entries) (readings : Readings) (dir : Names) where
  -- an answer waits for no reading, and is as it was told
  abbrev pub Stands : Question × Noted → Type 0
  Stands one = (awaited sources readings dir one.0 ≡ None) × (kept_as (answer sources settings readings dir one.0) ≡ one.1)

  -- it waits for none, and is another one
  abbrev pub IsOther : Question × Noted → Type 0
  IsOther one = (awaited sources readings dir one.0 ≡ None) × (kept_as (answer sources settings readings dir one.0) ≢ one.1)

  -- all answers stand
  abbrev pub AllStand : List (Question × Noted) → Type 0
  AllStand asked = All Stands asked

  -- one is another one
  abbrev pub OneIsOther : List (Question × Noted) → Type 0
  OneIsOther asked = (one : Question × Noted) × Contains asked one × IsOther one

  -- some stand, and the next one waits for the reading of a folder
  pub record StandUpTo (asked : List (Question × Noted)) (next : Names) : Type 0 where
    pub before : List (Question × Noted)
    pub one : Question × Noted
    pub after : List (Question × Noted)
    pub are : asked ≡ before ++ one ∷ after
    pub stand : AllStand before
    pub waits : awaited sources readings dir one.0 ≡ Some next

  -- what is found of the answers
  abbrev pub HasCompared : List (Question × Noted) → Result Bool Stop → Type 0
  HasCompared asked (Ok true) = AllStand asked
  HasCompared asked (Ok false) = OneIsOther asked
  HasCompared asked (Err (Awaits next)) = StandUpTo asked next
  HasCompared asked (Err Memory) = Unit {0}
