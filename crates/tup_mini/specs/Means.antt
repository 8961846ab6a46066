-- What the small commands mean (own).
use Rattle.std.specs.Prelude.{ℕ, List, [], ◌∷◌, None, Some}
use Rattle.tup_path.specs.Name.{Names}
use Rattle.tup_runner.specs.Next.{Asks, Next as NextStep}
use Rattle.tup_runner.specs.declared.step.Step.{Step}
use Rattle.tup_runner.specs.declared.step.Step.TheVariants.{End}
use Rattle.tup_mini.specs.Kept.{nothing}
use Rattle.tup_mini.specs.Part.{Outcome, Next, Gives, Part, ◌>>=◌, gives, stops}
use Rattle.tup_mini.specs.Files.{reads, needs, gathers, writes_to}
use Rattle.tup_mini.specs.Include.{lines_of, expands, includes}
use Rattle.tup_mini.specs.Steps.{steps_of, echoed}
use Rattle.tup_mini.specs.declared.step.MiniStep.{MiniStep}
use Rattle.tup_mini.specs.declared.step.MiniStep.TheVariants.{Join, Echo, Include, IfExists, Stop}

-- files are written behind one another
abbrev pub joins : List (List ℕ) → List ℕ → Part (Unit {0})
joins from to = gathers [] from >>= λ content. writes_to to content

-- a file is copied
abbrev pub copies : List ℕ → List ℕ → Part (Unit {0})
copies from to = needs from >>= λ content. writes_to to content

-- the expansion of a file is written; the file stands at depth 0, and below it files may stand down to depth 32
abbrev pub expansion : List ℕ → List ℕ → Part (Unit {0})
expansion from to = needs from >>= λ content. expands (includes 32) from [] (lines_of content) >>= λ whole. writes_to to whole

-- a file is copied where another is there, else an empty file is written
abbrev pub copies_if : List ℕ → List ℕ → List ℕ → Part (Unit {0})
copies_if probe from to = reads probe >>= λ found. elim found [ Some there ↦ copies from to | None ↦ writes_to to [] ]

-- what a step does
abbrev pub does : MiniStep → Part (Unit {0})
does (Join from to) = joins from to
does (Echo words to) = writes_to to (echoed words)
does (Include from to) = expansion from to
does (IfExists probe from to) = copies_if probe from to
does (Stop status) = stops status

-- steps run in order, up to the first that ends the command
abbrev pub runs : List MiniStep → Part (Unit {0})
runs [] = gives tt
runs (step ∷ steps) = does step >>= λ done. runs steps

-- a command whose last step is done ends with status 0
abbrev pub ended : Outcome (Unit {0}) → Step
ended (Next step) = step
ended (Gives kept done asks) = End (record { status = 0; writes = kept.writes })

-- what a command of these steps does next in a folder, given what it asked for so far and was answered
abbrev pub runs_next : Names → List MiniStep → Asks → Step
runs_next dir steps asks = ended (runs steps (nothing dir) asks)

-- the meaning of all small commands
unfoldable pub mini_next : NextStep
mini_next dir text asks = runs_next dir (steps_of text) asks
