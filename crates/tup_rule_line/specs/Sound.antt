-- What is true of the rules of every reading (own), whoever answers: they can be run in the order of their lines.
use Rattle.std.specs.Prelude.{◌≡◌, ◌≢◌, ◌⊎◌, ℕ, true, false, List, [], ◌∷◌, ◌++◌, codes, All}
use Rattle.std.specs.List.{IsDistinct}
use Rattle.tup_path.specs.Name.{Names}
use Rattle.tup_path.specs.Order.{same_path}
use Rattle.tup_path.specs.Tree.{IsBelow}
use Rattle.tup_rule.specs.Rule.{among}
use Rattle.tup_rule.specs.declared.draft.Draft.{Draft}
use Rattle.tup_rule.specs.declared.question.Kind.{Kind}
use Rattle.tup_rule.specs.declared.question.Kind.TheVariants.{File, Nothing}
use Rattle.tup_rule.specs.declared.question.Question.{Question}
use Rattle.tup_rule.specs.declared.question.Question.TheVariants as question
use Rattle.tup_rule.specs.declared.question.Told.{Told}
use Rattle.tup_query.specs.Ask.{kind_in, names_in}
use Rattle.tup_rule_line.specs.State.{is_made}

-- what is told to stand at a path
abbrev pub told_at : (Question → Told) → Names → Kind
told_at answers path = kind_in (answers (question.Kind path))

-- the names that are told of a folder are those of files
abbrev pub NamesFiles : (Question → Told) → Type 0
NamesFiles answers = (dir : Names) → All (λ name. told_at answers (dir ++ name ∷ []) ≡ File) (names_in (answers (question.Names dir)))

-- a rule takes a file, or an output of a rule before it
abbrev pub MayTake : (Question → Told) → List Draft → Names → Type 0
MayTake answers before path = (told_at answers path ≡ File) ⊎ (is_made before path ≡ true)

-- none of these paths lies below another
abbrev pub AreFlat : List Names → Type 0
AreFlat paths = (one other : Names) → among one paths ≡ true → among other paths ≡ true → IsBelow one other → ⊥

-- a rule makes a file below the folder where nothing stands, and which no rule before it makes. On the way to it stand
-- only folders, which have no Tupfile. No output of a rule before it lies on that way or below the file
pub record MayMake (answers : Question → Told) (dir : Names) (before : List Draft) (path : Names) : Type 0 where
  pub below : IsBelow dir path
  pub way : (folder : Names) → IsBelow dir folder → IsBelow folder path
      → (told_at answers (folder ++ codes "Tupfile" ∷ []) ≢ File) × (told_at answers folder ≢ File)
  pub free : told_at answers path ≡ Nothing
  pub new : is_made before path ≡ false
  pub apart : (other : Names) → is_made before other ≡ true → IsBelow dir other → (IsBelow other path → ⊥) × (IsBelow path other → ⊥)

-- a rule keeps to that
pub record IsSound (answers : Question → Told) (dir : Names) (before : List Draft) (draft : Draft) : Type 0 where
  pub inputs : All (MayTake answers before) draft.inputs
  pub order : All (MayTake answers before) draft.order
  pub outputs : All (MayMake answers dir before) draft.outputs
  -- no output is named twice, and none lies below another
  pub once : IsDistinct same_path draft.outputs
  pub flat : AreFlat draft.outputs

-- and so does each of some rules behind others
abbrev pub AreSound : (Question → Told) → Names → List Draft → List Draft → Type 0
AreSound answers dir before [] = Unit {0}
AreSound answers dir before (draft ∷ more) = IsSound answers dir before draft × AreSound answers dir (before ++ draft ∷ []) more
