-- What a reading asked and was told, each question once (own), and what it comes to by that alone.
use Rattle.std.specs.Prelude.{◌≡◌, ◌⊎◌, Bool, true, false, List, [], ◌∷◌, ◌++◌, IsTrue, Option, Some, None, Result, Ok, Err, map, bytes_eq}
use Rattle.std.specs.List.{AllByRecursion}
use Rattle.std.specs.Map.{lookup}
use Rattle.tup_path.specs.Order.{same_path}
use Rattle.tup_rule.specs.declared.question.Question.{Question}
use Rattle.tup_rule.specs.declared.question.Question.TheVariants as question
use Rattle.tup_rule.specs.declared.question.Told.{Told}
use Rattle.tup_rule.specs.declared.question.Told.TheVariants as told
use Rattle.tup_rule.specs.declared.question.Noted.{Noted}
use Rattle.tup_rule.specs.Question.{noted}
use Rattle.tup_query.specs.Reads.{Reads, Ends, Asks}

-- questions with what was told, in the order of first asking
abbrev pub Log : Type 0
Log = List (Question × Told)

-- whether two questions are the same
abbrev pub same_question : Question → Question → Bool
same_question (question.Content one) (question.Content other) = same_path one other
same_question (question.Config one) (question.Config other) = bytes_eq one other
same_question (question.Names one) (question.Names other) = same_path one other
same_question (question.Kind one) (question.Kind other) = same_path one other
same_question _ _ = false

-- whether an answer is of its question's kind
abbrev pub fits : Question → Told → Bool
fits (question.Content path) (told.Content content) = true
fits (question.Config name) (told.Config value) = true
fits (question.Names dir) (told.Names names) = true
fits (question.Kind path) (told.Kind kind) = true
fits _ _ = false

-- one who answers has stopped at this question
abbrev pub StopsAt : Option (Question → Bool) → Question → Type 0
StopsAt None question = ⊥
StopsAt (Some at) question = IsTrue (at question)

-- one who answers has stopped just where a question isn't answered, and at this one
abbrev pub IsStop : {A F : Type 0} → Question → Option (Question → Bool) → Result A F → Type 0
IsStop question stopped (Ok told) = stopped ≡ None
IsStop question stopped (Err stop) = StopsAt stopped question

-- each answer is of its question's kind
abbrev pub AllOfKind : Log → Type 0
AllOfKind log = AllByRecursion (λ (entry : Question × Told). fits entry.0 entry.1 ≡ true) log

-- what was told to a question before
abbrev pub told_before : Log → Question → Option Told
told_before log question = lookup (same_question question) log

-- how it goes on with a question: as it was told before, or else with some answer of the question's kind
abbrev pub Step : Question → (Told → Type 0) → (Told → Type 0) → Option Told → Type 0
Step question known new (Some before) = known before
Step question known new None = (answer : Told) × (fits question answer ≡ true) × new answer

-- how a process runs on from a log: what was asked before isn't asked again, and what is told is kept at the end
abbrev pub Ran : {F A : Type 0} → Log → Reads F A → Log → Result A F → Type 0
Ran log (Ends result) after end = (after ≡ log) × (end ≡ result)
Ran log (Asks question goes_on) after end =
    Step question (λ before. Ran log (goes_on before) after end) (λ answer. Ran (log ++ (question, answer) ∷ []) (goes_on answer) after end)
    (told_before log question)

-- how a process comes to a question that isn't answered: as in a run, up to one that was not asked before
abbrev pub Halts : {F A : Type 0} → Log → Reads F A → Log → Question → Type 0
Halts log (Ends result) after question = ⊥
Halts log (Asks next goes_on) after question =
    ((question ≡ next) × (told_before log next ≡ None) × (after ≡ log))
    ⊎ Step next (λ before. Halts log (goes_on before) after question) (λ answer. Halts (log ++ (next, answer) ∷ []) (goes_on answer) after question)
    (told_before log next)

-- one who answers says what a log says
abbrev pub Says : (Question → Told) → Log → Type 0
Says answers log = (question : Question) (told : Told) → told_before log question ≡ Some told → answers question ≡ told

-- the questions of a log, in the order of first asking
abbrev pub questions_of : Log → List Question
questions_of log = map (λ (entry : Question × Told). entry.0) log

-- a log as it is kept: a content by its stamp
abbrev pub noted_log : Log → List (Question × Noted)
noted_log log = map (λ (entry : Question × Told). (entry.0, noted entry.1)) log
