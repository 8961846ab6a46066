-- The four questions of a reading (own), each with the answer of its kind.
use Rattle.std.specs.Prelude.{ℕ, List, [], ◌∷◌, ◌++◌, Option, None}
use Rattle.tup_path.specs.Name.{Names, Content}
use Rattle.tup_rule.specs.declared.question.Kind.{Kind}
use Rattle.tup_rule.specs.declared.question.Kind.TheVariants.{Nothing}
use Rattle.tup_rule.specs.declared.question.Question.{Question}
use Rattle.tup_rule.specs.declared.question.Question.TheVariants as question
use Rattle.tup_rule.specs.declared.question.Told.{Told}
use Rattle.tup_rule.specs.declared.question.Told.TheVariants as told
use Rattle.tup_query.specs.Reads.{Reads, Asks, gives, and_then}

-- What an answer tells to each question; an answer of another kind, which nobody gives, says that there is nothing.

-- the content of a file
abbrev pub content_in : Told → Option Content
content_in (told.Content content) = content
content_in _ = None

-- the value of a setting that is set; None: it is not set, or the answer is of another kind
abbrev pub setting_in : Told → Option (List ℕ)
setting_in (told.Config value) = value
setting_in _ = None

-- the names in a folder
abbrev pub names_in : Told → List (List ℕ)
names_in (told.Names names) = names
names_in _ = []

-- what stands at a path
abbrev pub kind_in : Told → Kind
kind_in (told.Kind kind) = kind
kind_in _ = Nothing

-- a question, with what is told
unfoldable pub asks : {F : Type 0} → Question → Reads F Told
asks question = Asks question (λ told. gives told)

-- what a source file holds
abbrev pub content_at : {F : Type 0} → Names → Reads F (Option Content)
content_at path = and_then (asks (question.Content path)) (λ told. gives (content_in told))

-- what tup.config sets a name to
abbrev pub setting_of : {F : Type 0} → List ℕ → Reads F (Option (List ℕ))
setting_of name = and_then (asks (question.Config name)) (λ told. gives (setting_in told))

-- which files stand in a folder
abbrev pub names_at : {F : Type 0} → Names → Reads F (List (List ℕ))
names_at dir = and_then (asks (question.Names dir)) (λ told. gives (names_in told))

-- what stands at a path
abbrev pub kind_at : {F : Type 0} → Names → Reads F Kind
kind_at path = and_then (asks (question.Kind path)) (λ told. gives (kind_in told))

-- names, each with what tup.config sets it to
abbrev pub Settings : Type 0
Settings = List (List ℕ × Option (List ℕ))

-- what tup.config sets some names to, one after another, behind what is known
unfoldable pub settings_of : {F : Type 0} → Settings → List (List ℕ) → Reads F Settings
settings_of known [] = gives known
settings_of known (name ∷ more) = and_then (setting_of name) (λ value. settings_of (known ++ (name, value) ∷ []) more)
