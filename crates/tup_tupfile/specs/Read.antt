-- What the reading of a folder's Tupfile leaves (own).
use Rattle.std.specs.Prelude.{◌≡◌, Bool, IsTrue, List, [], ◌∷◌, ◌++◌, map, Option, Some, Result, Ok, Err}
use Rattle.std.specs.Map.{lookup}
use Rattle.tup_path.specs.Name.{Names}
use Rattle.tup_rule.specs.declared.draft.Draft.{Draft}
use Rattle.tup_rule.specs.declared.question.Question.{Question}
use Rattle.tup_rule.specs.declared.question.Reading.{Reading}
use Rattle.tup_rule.specs.declared.question.Told.{Told}
use Rattle.tup_rule.specs.declared.question.Noted.{Noted}
use Rattle.tup_rule.specs.Question.{noted}
use Rattle.tup_query.specs.declared.fault.ParseFault.{ParseFault}
use Rattle.tup_query.specs.declared.fault.ReadEnd.{ReadEnd}
use Rattle.tup_query.specs.declared.fault.ReadEnd.TheVariants.{Fault, Stopped, Memory}
use Rattle.tup_query.specs.Reads.{Reads, outcome}
use Rattle.tup_query.specs.Log.{Log, same_question, Ran, Halts, StopsAt, Says, noted_log, questions_of}
use Rattle.tup_query.specs.Went.{AskedAre}
use Rattle.tup_tupfile.specs.Reading.{reading}

-- what was told is what this one answers, where it tells
abbrev pub IsToldBy : Bool → (Question → Told) → Log → Type 0
IsToldBy tells answers log = IsTrue tells → Says answers log

-- from the empty log, with what was told so, the reading runs to these rules, and the log with its contents by their
-- stamps is what is kept; or it runs to this fault; or it stands at the question at which who answers has stopped
abbrev pub IsReading : (Log → Type 0) → Names → Option (Question → Bool) → Result Reading ReadEnd → Type 0
IsReading IsTold dir stopped (Ok left) = (log : Log) × IsTold log × Ran [] (reading dir) log (Ok left.drafts) × (left.asked ≡ noted_log log)
IsReading IsTold dir stopped (Err (Fault fault)) = (log : Log) × IsTold log × Ran [] (reading dir) log (Err fault)
IsReading IsTold dir stopped (Err Stopped) =
    (log : Log) × IsTold log × (question : Question) × StopsAt stopped question × Halts [] (reading dir) log question
IsReading IsTold dir stopped (Err Memory) = Unit {0}

-- each question is kept with what is answered to it
abbrev pub KeepsAnswers : (Question → Told) → List (Question × Noted) → Type 0
KeepsAnswers answers asked =
    (question : Question) (told : Noted) → lookup (same_question question) asked ≡ Some told → told ≡ noted (answers question)

-- what was read is what a process ends with where each question is answered so, and what is kept are these answers; where
-- it wasn't answered the process had come to this question by them
abbrev pub Agrees : (Question → Told) → Reads ParseFault (List Draft) → Result Reading ReadEnd → Type 0
Agrees answers reads (Ok left) = (outcome answers reads ≡ Ok left.drafts) × KeepsAnswers answers left.asked
Agrees answers reads (Err (Fault fault)) = outcome answers reads ≡ Err fault
Agrees answers reads (Err Stopped) = (log : Log) × (question : Question) × Halts [] reads log question × Says answers log
Agrees answers reads (Err Memory) = Unit {0}

-- behind earlier questions one who answers was asked what the reading asks up to its end, each question once, in order: of
-- rules just what is kept, of a fault what was told so, and where it stopped, at last the question at which it did
abbrev pub AsksOnce : (Log → Type 0) → Names → Option (Question → Bool) → List Question → Option (List Question) → Result Reading ReadEnd → Type 0
AsksOnce IsTold dir stopped earlier asked (Ok left) = AskedAre asked (earlier ++ map (λ (entry : Question × Noted). entry.0) left.asked)
AsksOnce IsTold dir stopped earlier asked (Err (Fault fault)) =
    (log : Log) × IsTold log × Ran [] (reading dir) log (Err fault) × AskedAre asked (earlier ++ questions_of log)
AsksOnce IsTold dir stopped earlier asked (Err Stopped) =
    (log : Log) × IsTold log
    × (question : Question) × StopsAt stopped question × Halts [] (reading dir) log question × AskedAre asked (earlier ++ (questions_of log ++ question ∷ []))
AsksOnce IsTold dir stopped earlier asked (Err Memory) = Unit {0}
