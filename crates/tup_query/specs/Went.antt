-- How a call of the reader goes (own): what is known of who answers and of the log, before it and after it.
use Rattle.std.specs.Prelude.{◌≡◌, ◌⊎◌, Bool, true, false, IsTrue, List, [], ◌∷◌, ◌++◌, Option, Some, None, is_some, Result, Ok, Err}
use Rattle.tup_lex.specs.declared.kind.ParseKind.{ParseKind}
use Rattle.tup_rule.specs.declared.question.Question.{Question}
use Rattle.tup_rule.specs.declared.question.Told.{Told}
use Rattle.tup_query.specs.declared.fault.ReadEnd.{ReadEnd}
use Rattle.tup_query.specs.declared.fault.ReadEnd.TheVariants.{Fault, Stopped, Memory}
use Rattle.tup_query.specs.declared.fault.ParseFault.{ParseFault}
use Rattle.tup_query.specs.Reads.{Reads, gives, refuses}
use Rattle.tup_query.specs.Log.{Log, Ran, Halts, StopsAt, Says, questions_of}
use Rattle.tup_query.specs.Spot.{Spot, fault_at}

-- who answers: what it answers to each question, where it has stopped, a test that the question at which it did
-- passes; what it was asked, where it lists that; and the log of what it told
pub record Asker : Type 0 where
  pub answers : Question → Told
  pub stopped : Option (Question → Bool)
  pub asked : Option (List Question)
  pub log : Log

-- the same by its parts
abbrev pub asker : (Question → Told) → Option (Question → Bool) → Option (List Question) → Log → Asker
asker answers stopped asked log = record { answers = answers; stopped = stopped; asked = asked; log = log }

-- just these questions were asked, in this order, as far as one who answers lists them
abbrev pub AskedAre : Option (List Question) → List Question → Type 0
AskedAre None questions = Unit {0}
AskedAre (Some asked) questions = asked ≡ questions

-- behind earlier questions just those of the log were asked, each once; where who answers stopped, the one at which the
-- process then stands was asked besides; where memory was wanting, it says nothing
abbrev pub Asks : {A : Type 0} → List Question → Log → Reads ParseFault A → Asker → Result A ReadEnd → Type 0
Asks earlier log reads after (Ok value) = AskedAre after.asked (earlier ++ questions_of after.log)
Asks earlier log reads after (Err (Fault fault)) = AskedAre after.asked (earlier ++ questions_of after.log)
Asks earlier log reads after (Err Stopped) =
    (question : Question) × Halts log reads after.log question × AskedAre after.asked (earlier ++ (questions_of after.log ++ question ∷ []))
Asks earlier log reads after (Err Memory) = Unit {0}

-- an answer is what a process runs to from a log; where who answers stopped, the process stands at the question at
-- which it did, which was not asked before; where memory was wanting, it says nothing
abbrev pub Comes : {A : Type 0} → Log → Reads ParseFault A → Asker → Result A ReadEnd → Type 0
Comes log reads after (Ok value) = Ran log reads after.log (Ok value)
Comes log reads after (Err (Fault fault)) = Ran log reads after.log (Err fault)
Comes log reads after (Err Stopped) = (question : Question) × StopsAt after.stopped question × Halts log reads after.log question
Comes log reads after (Err Memory) = Unit {0}

-- whether a call ended because who answers stopped
abbrev pub is_stopped : {A : Type 0} → Result A ReadEnd → Bool
is_stopped (Ok value) = false
is_stopped (Err (Fault fault)) = false
is_stopped (Err Stopped) = true
is_stopped (Err Memory) = false

-- a call that may ask did what a process says: its answer is what the process runs to, it ended for a stop just where who
-- answers has stopped, where that one tells its answers they are the same, and the log has them, and it was asked what is
-- new in the log
pub record Went {A : Type 0} (tells : Bool) (before : Asker) (reads : Reads ParseFault A) (after : Asker) (end : Result A ReadEnd) : Type 0 where
  pub comes : Comes before.log reads after end
  pub stopped : is_some after.stopped ≡ is_stopped end
  pub same : IsTrue tells → after.answers ≡ before.answers
  pub says : IsTrue tells → Says before.answers before.log → Says after.answers after.log
  pub asks : (earlier : List Question) → AskedAre before.asked (earlier ++ questions_of before.log) → Asks earlier before.log reads after end

-- a call that asks nothing gives what a process ends with, unless memory is wanting
abbrev pub Gives : {A : Type 0} → Reads ParseFault A → Result A ReadEnd → Type 0
Gives reads (Ok value) = reads ≡ gives value
Gives reads (Err (Fault fault)) = reads ≡ refuses fault
Gives reads (Err Stopped) = ⊥
Gives reads (Err Memory) = Unit {0}

-- an end with a fault of this kind at a place, unless memory is wanting
abbrev pub IsRefusal : Spot → ParseKind → ReadEnd → Type 0
IsRefusal at kind end = (end ≡ Memory) ⊎ (end ≡ Fault (fault_at at kind))
