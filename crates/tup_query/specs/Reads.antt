-- A reading as a process (own): it ends with a value or a fault, or it asks something about the project and goes on with
-- what it is told. So nothing that is said of a reading names who answers.
use Rattle.std.specs.Prelude.{◌≡◌, List, [], ◌∷◌, Result, Ok, Err, Contains}
use Rattle.tup_rule.specs.declared.question.Question.{Question}
use Rattle.tup_rule.specs.declared.question.Told.{Told}

-- a reading that ends with an `A` or a fault `F`
pub data Reads (F A : Type 0) : Type 0 where
  -- the end, with a value or a fault
  Ends : Result A F → Reads F A
  -- a question, and how it goes on with each answer
  Asks : Question → (Told → Reads F A) → Reads F A

-- the end with a value
abbrev pub gives : {F A : Type 0} → A → Reads F A
gives value = Ends (Ok value)

-- the end with a fault
abbrev pub refuses : {F A : Type 0} → F → Reads F A
refuses fault = Ends (Err fault)

-- one process behind another, with the value that this one gives; a fault ends both
unfoldable pub and_then : {F A B : Type 0} → Reads F A → (A → Reads F B) → Reads F B
and_then (Ends (Ok value)) next = next value
and_then (Ends (Err fault)) next = Ends (Err fault)
and_then (Asks question goes_on) next = Asks question (λ told. and_then (goes_on told) next)

-- what a process ends with where each question is answered so
abbrev pub outcome : {F A : Type 0} → (Question → Told) → Reads F A → Result A F
outcome answers (Ends result) = result
outcome answers (Asks question goes_on) = outcome answers (goes_on (answers question))

-- what it asks then, in order
abbrev pub asked : {F A : Type 0} → (Question → Told) → Reads F A → List Question
asked answers (Ends result) = []
asked answers (Asks question goes_on) = question ∷ asked answers (goes_on (answers question))

-- two who answer give the same answers to what a process asks of the first
abbrev pub AnswerAlike : {F A : Type 0} → Reads F A → (Question → Told) → (Question → Told) → Type 0
AnswerAlike reads one other = (question : Question) → Contains (asked one reads) question → other question ≡ one question

-- then it ends alike, and asks the same of both
pub record IsLocal {F A : Type 0} (reads : Reads F A) (one other : Question → Told) : Type 0 where
  pub ends : outcome other reads ≡ outcome one reads
  pub asks : asked other reads ≡ asked one reads
