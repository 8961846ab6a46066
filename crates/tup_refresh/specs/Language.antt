-- The language of Tupfiles as the store has it: the reading of a folder, one question after another (own).
use Rattle.std.specs.Prelude.{◌≡◌, ◌⊎◌, Bool, if◌then◌else◌, List, Option, Some, None, Ok, Err}
use Rattle.std.specs.List.{list_all}
use Rattle.std.proofs.Common.{inl, inr}
use Rattle.tup_path.specs.Name.{Names}
use Rattle.tup_rule.specs.declared.draft.Draft.{Draft}
use Rattle.tup_rule.specs.declared.question.Question.{Question}
use Rattle.tup_rule.specs.declared.question.Told.{Told}
use Rattle.tup_query.specs.declared.fault.ParseFault.{ParseFault}
use Rattle.tup_query.specs.Log.{Log, fits, told_before}
use Rattle.tup_query.specs.Reads.{Reads, Ends, Asks}
use Rattle.tup_tupfile.specs.Reading.{reading}
use Rattle.tup_graph.specs.Records.{Language}

-- what follows an answer that was told, or else this
abbrev pub known_or : {R : Type 0} → Option Told → (Told → R) → R → R
known_or (Some told) follows other = follows told
known_or None follows other = other

-- where a process stands that was told a log: at a question that wasn't told yet, or at its end; None where that is a fault
abbrev pub stands_at : {A : Type 0} → Log → Reads ParseFault A → Option (Question ⊎ A)
stands_at log (Ends (Ok value)) = Some (inr value)
stands_at log (Ends (Err fault)) = None
stands_at log (Asks question goes_on) = known_or (told_before log question) (λ told. stands_at log (goes_on told)) (Some (inl question))

-- each answer is of its question's kind
abbrev pub all_fit : Log → Bool
all_fit log = list_all (λ (entry : Question × Told). fits entry.0 entry.1) log

-- what the reading of a folder does next
abbrev pub next_of : Names → Log → Option (Question ⊎ List Draft)
next_of dir log = if all_fit log then stands_at log (reading dir) else None

-- the readings of a language are those of Tupfiles
abbrev pub ReadsTupfiles : Language → Type 0
ReadsTupfiles language = (dir : Names) (log : Log) → language.next dir log ≡ next_of dir log
