-- A part of a command (own), as a function of what the command keeps and of the answers that it is still given.
use Rattle.std.specs.Prelude.{ℕ, nat_lt, if◌then◌else◌, List, [], ◌∷◌, Option, None, Some}
use Rattle.tup_path.specs.Name.{Content}
use Rattle.tup_runner.specs.Next.{Asks}
use Rattle.tup_runner.specs.declared.step.Answer.TheVariants.{Content as Found, Absent}
use Rattle.tup_runner.specs.declared.step.Step.{Step}
use Rattle.tup_runner.specs.declared.step.Step.TheVariants.{Ask, End}
use Rattle.tup_mini.specs.Kept.{Kept, first_text, with_ask}

-- what comes of a part: the command's next step, where it asks or ends within the part, or else a value, with what the
-- command keeps then and the answers that are left
pub data Outcome (A : Type 0) : Type 0 where
  Next : Step → Outcome A
  Gives : Kept → A → Asks → Outcome A

-- a part of a command, from what the command keeps and the answers that are left
abbrev pub Part : Type 0 → Type 0
Part A = Kept → Asks → Outcome A

-- what comes of a part and of what is behind it
abbrev pub followed : {A B : Type 0} → Outcome A → (A → Part B) → Outcome B
followed (Next step) on = Next step
followed (Gives kept value asks) on = on value kept asks

-- one part, and then another
infixl 10 ◌>>=◌
abbrev pub ◌>>=◌ : {A B : Type 0} → Part A → (A → Part B) → Part B
part >>= on = λ kept asks. followed (part kept asks) on

-- a value at once
abbrev pub gives : {A : Type 0} → A → Part A
gives value = λ kept asks. Gives kept value asks

-- the command ends with this status, and with what it wrote so far
abbrev pub stops : {A : Type 0} → ℕ → Part A
stops status = λ kept asks. Next (End (record { status = status; writes = kept.writes }))

-- what an answer says: a content, or that there is no file
abbrev pub told : {A : Type 0} → Asks → List ℕ → Kept → (Option Content → Part A) → Outcome A
told [] text kept on = Next (Ask text)
told ((used, Found content) ∷ asks) text kept on = on (Some content) kept asks
told ((used, Absent) ∷ asks) text kept on = on None kept asks

-- a file is asked for, whatever was asked before
abbrev pub ask_once : List ℕ → Part (Option Content)
ask_once text = λ kept asks. told asks text kept gives

-- a file is asked for again and again, whatever is answered
abbrev pub ask_on : List ℕ → Asks → Outcome (Option Content)
ask_on text = λ asks. Next (Ask text)

-- a file is asked for. A command may ask 4,095 times: after that it asks for its first file again, until that is refused
abbrev pub ask_for : List ℕ → Part (Option Content)
ask_for text = λ kept asks.
    if nat_lt kept.asked 4095 then ask_once text (with_ask text kept) asks
    else ask_on (first_text kept.first text) asks
