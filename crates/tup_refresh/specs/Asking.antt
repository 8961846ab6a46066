-- One who answers the reading of a folder, where contents are fetched first (own).
use Rattle.std.specs.Prelude.{◌≡◌, ℕ, zero, suc, Bool, true, List, [], ◌∷◌, Option, Some, None, if◌then◌else◌}
use Rattle.std.specs.BTreeSet.{contains}
use Rattle.std.specs.FinMap as finite
use Rattle.tup_path.specs.Name.{Names}
use Rattle.tup_path.specs.Order.{by_names}
use Rattle.tup_path.specs.Tree.{Tree}
use Rattle.tup_rule.specs.declared.question.Kind.TheVariants.{Nothing}
use Rattle.tup_rule.specs.declared.question.Question.{Question}
use Rattle.tup_rule.specs.declared.question.Question.TheVariants as asks
use Rattle.tup_rule.specs.declared.question.Told.{Told}
use Rattle.tup_rule.specs.declared.question.Told.TheVariants as told
use Rattle.tup_vars.specs.Table.{Entries}
use Rattle.tup_readings.specs.Answers.{Readings, awaited, answer}
use Rattle.tup_readings.specs.Asked.{waits_for}
use Rattle.tup_refresh.specs.declared.asking.Halt.{Halt}
use Rattle.tup_refresh.specs.declared.asking.Halt.TheVariants.{Lacks, Awaits, Memory}
use Rattle.tup_refresh.specs.declared.fetched.Fetched.{Fetched}

-- the bytes of a name, each one more, and a zero behind them; then the rest
abbrev pub ended : List ℕ → List ℕ → List ℕ
ended [] rest = zero ∷ rest
ended (byte ∷ name) rest = suc byte ∷ ended name rest

-- a path as one text, from which it can be told
abbrev pub in_one : Names → List ℕ
in_one [] = []
in_one (name ∷ path) = ended name (in_one path)

-- what stands in the place of an answer while that waits for the reading of a folder: no answer, but the folder can be told from it
abbrev pub waiting : Question → Names → Told
waiting (asks.Names dir) next = told.Content (Some (in_one next))
waiting _ next = told.Names next

-- what is answered to a question; while the answer waits, what stands in its place
abbrev pub answer_or_waiting : Tree → Entries → Readings → Names → Question → Told
answer_or_waiting outline settings readings reader question =
    elim (awaited outline readings reader question) [ Some next ↦ waiting question next | None ↦ answer outline settings readings reader question ]

-- what is answered to a question; while that isn't known or waits, something that is no answer
abbrev pub told_or_misfit : Tree → Entries → Readings → Names → Fetched → Question → Told
told_or_misfit outline settings readings reader fetched (asks.Content path) =
    if contains by_names fetched.missing path then told.Kind Nothing else told.Content (finite.get fetched.contents path)
told_or_misfit outline settings readings reader fetched (asks.Config name) = answer_or_waiting outline settings readings reader (asks.Config name)
told_or_misfit outline settings readings reader fetched (asks.Names dir) = answer_or_waiting outline settings readings reader (asks.Names dir)
told_or_misfit outline settings readings reader fetched (asks.Kind path) = answer_or_waiting outline settings readings reader (asks.Kind path)

-- why a question isn't answered: a content is missing, the answer waits for the reading of a folder, or there was no memory
abbrev pub IsHalt : Tree → Readings → Names → Fetched → Question → Halt → Type 0
IsHalt outline readings reader fetched question (Lacks path) = contains by_names fetched.missing path ≡ true
IsHalt outline readings reader fetched question (Awaits next) = awaited outline readings reader question ≡ Some next
IsHalt outline readings reader fetched question Memory = Unit {0}

-- what is known of the question at which one has stopped
abbrev pub halted_at : Tree → Readings → Names → Fetched → Option Halt → Option (Question → Bool)
halted_at outline readings reader fetched None = None
halted_at outline readings reader fetched (Some (Lacks path)) = Some (λ question. contains by_names fetched.missing path)
halted_at outline readings reader fetched (Some (Awaits next)) = Some (waits_for outline readings reader next)
halted_at outline readings reader fetched (Some Memory) = Some (λ question. true)
