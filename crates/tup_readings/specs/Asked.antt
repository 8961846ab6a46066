-- One who answers the reading of a folder, over sources and the readings so far.
use Rattle.std.specs.Prelude.{◌≡◌, Bool, true, false, Option, Some, None}
use Rattle.tup_path.specs.Name.{Names}
use Rattle.tup_path.specs.Order.{same_path}
use Rattle.tup_path.specs.Tree.{Tree}
use Rattle.tup_rule.specs.declared.question.Kind.TheVariants.{Nothing}
use Rattle.tup_rule.specs.declared.question.Question.{Question}
use Rattle.tup_rule.specs.declared.question.Question.TheVariants as asks
use Rattle.tup_rule.specs.declared.question.Told.{Told}
use Rattle.tup_rule.specs.declared.question.Told.TheVariants as told
use Rattle.tup_vars.specs.Table.{Entries}
use Rattle.tup_readings.specs.declared.asked.Stop.{Stop}
use Rattle.tup_readings.specs.declared.asked.Stop.TheVariants.{Awaits, Memory}
use Rattle.tup_readings.specs.Answers.{Readings, awaited, answer}

-- no answer to a question about files, as it is of another kind
abbrev pub misfit : Question → Told
misfit (asks.Names dir) = told.Kind Nothing
misfit _ = told.Content None

-- what is answered to a question; while the answer waits for a reading, something that is no answer
abbrev pub answer_or_misfit : Tree → Entries → Readings → Names → Question → Told
answer_or_misfit sources settings readings reader question =
    elim (awaited sources readings reader question) [ Some next ↦ misfit question | None ↦ answer sources settings readings reader question ]

-- whether an answer waits for the reading of this folder
abbrev pub waits_for : Tree → Readings → Names → Names → Question → Bool
waits_for sources readings reader next question = elim (awaited sources readings reader question) [ Some dir ↦ same_path dir next | None ↦ false ]

-- what is known of the question at which one has stopped
abbrev pub stopped_at : Tree → Readings → Names → Option Stop → Option (Question → Bool)
stopped_at sources readings reader None = None
stopped_at sources readings reader (Some (Awaits next)) = Some (waits_for sources readings reader next)
stopped_at sources readings reader (Some Memory) = Some (λ question. true)

-- why a question isn't answered: its answer waits for the reading of a folder, or there was no memory
abbrev pub IsWait : Option Names → Stop → Type 0
IsWait awaited (Awaits next) = awaited ≡ Some next
IsWait awaited Memory = Unit {0}
