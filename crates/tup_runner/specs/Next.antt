-- What a runner means: a function that says what it does next. From the folder, the command and the
-- answers so far it either asks for one more file or ends. So a command is a function of what it reads.
use Rattle.std.specs.Prelude.{ℕ, List}
use Rattle.tup_path.specs.Name.{Names}
use Rattle.tup_runner.specs.declared.step.Answer.{Answer}
use Rattle.tup_runner.specs.declared.step.Step.{Step}

-- the texts that a command has asked for, in their order, each with what it was answered
abbrev pub Asks : Type 0
Asks = List (List ℕ × Answer)

-- what a runner does next
abbrev pub Next : Type 0
Next = Names → List ℕ → Asks → Step
