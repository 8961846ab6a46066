-- How the reading of a folder ends.
use Rattle.std.proofs.Common.{◌≡◌, true, [], Option, Some, Result, Ok, Err, IsTrue, refl, subst}
use Rattle.tup_path.specs.Name.{Names}
use Rattle.tup_path.specs.Tree.{Tree}
use Rattle.tup_rule.specs.declared.question.Question.{Question}
use Rattle.tup_rule.specs.declared.question.Reading.{Reading}
use Rattle.tup_vars.specs.Table.{Entries}
use Rattle.tup_query.specs.declared.fault.ParseFault.{ParseFault}
use Rattle.tup_query.specs.Log.{Log, Ran, Halts, StopsAt, noted_log}
use Rattle.tup_tupfile.specs.Read.{IsToldBy}
use Rattle.tup_tupfile.specs.Reading.{reading}
use Rattle.tup_readings.specs.declared.asked.Stop.{Stop}
use Rattle.tup_readings.specs.declared.asked.Stop.TheVariants.{Awaits, Memory}
use Rattle.tup_readings.specs.declared.fault.FoldersFault.{FoldersFault}
use Rattle.tup_readings.specs.declared.fault.FoldersFault.TheVariants as fault
use Rattle.tup_readings.specs.declared.folders.Came.{Came}
use Rattle.tup_readings.specs.declared.folders.Came.TheVariants.{Read, Waits}
use Rattle.tup_readings.specs.Sources.{has_tupfile}
use Rattle.tup_readings.specs.Answers.{Readings, awaited}
use Rattle.tup_readings.specs.Asked.{answer_or_misfit, waits_for, stopped_at, IsWait}
use Rattle.tup_readings.specs.Readings.{IsReadingOver, IsFaultOver}
use Rattle.tup_readings.specs.State.{HasCome, HasStopped}
use Rattle.tup_readings.proofs.Answered.{answered, waits_for-refl, waits_as_before}
use Rattle.tup_readings.proofs.Logs.{fit_from_start, fit_where_it_stands}

-- what is kept says at which question the answer waits
pub stop_is : (sources : Tree) (readings : Readings) (reader : Names) (question : Question) (stop : Stop) → IsWait (awaited sources readings reader question) stop
    → StopsAt (stopped_at sources readings reader (Some stop)) question
stop_is sources readings reader question (Awaits next) waits = waits_for-refl sources readings reader next question waits
stop_is sources readings reader question Memory waits = refl

module _ (sources : Tree) (settings : Entries) (readings : Readings) (reader : Names) where
  pub read_over : (left : Reading) (log : Log) → IsToldBy true (answer_or_misfit sources settings readings reader) log → Ran [] (reading reader) log (Ok left.drafts) → left.asked ≡ noted_log log
      → IsReadingOver sources settings readings reader left
  read_over left log told ran noted = record {
    log = log;
    answered = answered sources settings readings reader log (told refl) (fit_from_start log (reading reader) (Ok left.drafts) ran);
    ran = ran;
    noted = noted;
  }

  pub fault_over : (fault : ParseFault) (log : Log) → IsTrue (has_tupfile sources reader) → IsToldBy true (answer_or_misfit sources settings readings reader) log → Ran [] (reading reader) log (Err fault)
      → IsFaultOver sources settings readings reader fault
  fault_over fault log has told ran = record {
    has = has;
    log = log;
    answered = answered sources settings readings reader log (told refl) (fit_from_start log (reading reader) (Err fault) ran);
    ran = ran;
  }

  -- where one who told the same stopped
  pub came : (result : Result Came FoldersFault) (stop : Option Stop) (after : Tree) (set : Entries) (others : Readings) (other : Names) (log : Log) (question : Question) → IsTrue (has_tupfile sources reader)
      → IsToldBy true (answer_or_misfit sources settings readings reader) log → StopsAt (stopped_at after others other stop) question → Halts [] (reading reader) log question
      → answer_or_misfit after set others other ≡ answer_or_misfit sources settings readings reader → HasStopped stop result → HasCome sources settings readings reader result
  came (Ok (Waits next)) stop after set others other log question has told at halts same stopped =
      let at_next : IsTrue (waits_for after others other next question) = subst (λ (s : Option Stop). StopsAt (stopped_at after others other s) question) stopped at in
      record {
        has = has;
        log = log;
        answered = answered sources settings readings reader log (told refl) (fit_where_it_stands log (reading reader) question halts);
        question = question;
        halts = halts;
        waits = waits_as_before sources after settings set readings others reader other next question same at_next;
      }
  came (Ok (Read left)) stop after set others other log question has told at halts same stopped = absurd stopped
  came (Err fault.Memory) stop after set others other log question has told at halts same stopped = tt
  came (Err (fault.Parse found)) stop after set others other log question has told at halts same stopped = absurd stopped
  came (Err (fault.Circular dirs)) stop after set others other log question has told at halts same stopped = absurd stopped
