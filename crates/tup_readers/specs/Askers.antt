-- The folders whose readings asked a question, found in one pass over what readings left (own).
use Rattle.std.specs.Prelude.{◌++◌, ◌∷◌, Bool, if◌then◌else◌, List, []}
use Rattle.std.specs.List.{list_any}
use Rattle.tup_rule.specs.declared.question.Noted.{Noted}
use Rattle.tup_rule.specs.declared.question.Question.{Question}
use Rattle.tup_rule.specs.declared.question.Reading.{Reading}
use Rattle.tup_rule.specs.contracts.question.QuestionPartialEq.TheImpl as questions

-- whether two questions are the same
abbrev pub same_question : Question → Question → Bool
same_question one other = questions.eq-value.it one other

-- whether a reading asked a question
abbrev pub has_asked : Question → Reading → Bool
has_asked question reading = list_any (λ (one : Question × Noted). same_question one.0 question) reading.asked

-- a key alone, or none
abbrev pub key_if : {K : Type 0} → Bool → K → List K
key_if is key = if is then key ∷ [] else []

-- the keys of the entries that pass a test, in their order
abbrev pub those_in : {K X : Type 0} → (X → Bool) → List (K × X) → List K
those_in test [] = []
those_in test (entry ∷ entries) = key_if (test entry.1) entry.0 ++ those_in test entries
