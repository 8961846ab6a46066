-- A true reading whose answers stand is the folder's reading now.
use Rattle.std.proofs.Common.{◌≡◌, ◌+◌, ◌<◌, ◌≤◌, ℕ, true, List, [], ◌∷◌, ◌++◌, length, take, drop, get_or, Option, Some, Ok, Err, IsTrue, refl, sym, ap, ◌∙◌, subst, arith, take_all, take-append-drop}
use Rattle.std.specs.FinMap as finite
use Rattle.std.specs.List.{Contains}
use Rattle.std.specs.Option.{option_map}
use Rattle.std.proofs.lemmas.List.{map-append, get_or_default, drop_more}
use Rattle.std.proofs.lemmas.List.Elements.{All-contains, All-more, Contains-append_right, Contains-append_left}
use Rattle.tup_path.specs.Name.{Names, Content}
use Rattle.tup_path.specs.Tree.{Tree}
use Rattle.tup_stamp.specs.Stamp.{stamp}
use Rattle.tup_rule.specs.Question.{noted as kept_as}
use Rattle.tup_rule.specs.declared.question.Noted.{Noted}
use Rattle.tup_rule.specs.declared.question.Question.{Question}
use Rattle.tup_rule.specs.declared.question.Question.TheVariants as asks
use Rattle.tup_rule.specs.declared.question.Reading.{Reading}
use Rattle.tup_rule.specs.declared.question.Told.{Told}
use Rattle.tup_rule.specs.declared.question.Told.TheVariants as told
use Rattle.tup_vars.specs.Table.{Entries}
use Rattle.tup_query.specs.Log.{Log, Halts, fits, told_before, noted_log}
use Rattle.tup_tupfile.specs.Reading.{reading}
use Rattle.tup_readings.specs.Answers.{Readings, awaited, answer}
use Rattle.tup_readings.specs.Readings.{IsAnswered, IsReadingOver, WaitsFor}
use Rattle.tup_readings.specs.Asked.{IsWait}
use Rattle.tup_readings.specs.Sources.{has_tupfile}
use Rattle.tup_readings.specs.declared.asked.Stop.{Stop}
use Rattle.tup_readings.specs.declared.asked.Stop.TheVariants.{Awaits, Memory}
use Rattle.tup_readings.proofs.Logs.{AllFit, fit_from_start, fit_where_it_stands}
use Rattle.tup_refresh.specs.Refresh.{IsTrueBeside}
use Rattle.tup_refresh.specs.Standing.{Stands, IsOther, AllStand, OneIsOther, StandUpTo, HasCompared}
use Rattle.tup_refresh.proofs.Halting.{told_by, cut_before, halted_from_start}

-- an entry of a list stands in it
among : {X : Type 0} (pre post : List X) (one : X) → Contains (pre ++ one ∷ post) one
among pre post one = Contains-append_right pre (one ∷ post) one (0, omega arith, refl)

abbrev as_kept : Question × Told → Question × Noted
as_kept entry = (entry.0, kept_as entry.1)

-- what a log tells stands in it, and in what is kept of it
pub told_there : (log : Log) (question : Question) (given : Told) → told_before log question ≡ Some given → Contains log (question, given)
told_there log question given e =
    let place = told_by log question given e in
    subst (λ (entry : Question × Told). Contains log entry) place.4 (subst (λ (l : Log). Contains l place.1) (sym place.3) (among place.0 place.2 place.1))

pub noted_there : (log : Log) (question : Question) (given : Told) → told_before log question ≡ Some given → Contains (noted_log log) (question, kept_as given)
noted_there log question given e =
    let place = told_by log question given e in
    subst (λ (entry : Question × Told). Contains (noted_log log) (entry.0, kept_as entry.1)) place.4
    (subst (λ (l : List (Question × Noted)). Contains l (place.1.0, kept_as place.1.1)) (sym (ap noted_log place.3 ∙ map-append as_kept place.0 (place.1 ∷ place.2)))
    (among (noted_log place.0) (noted_log place.2) (place.1.0, kept_as place.1.1)))

module _ (sources : Tree) (settings : Entries) (readings : Readings) (dir : Names) where
  -- what was told is what is answered, where both are kept as the same
  pub same_told : (question : Question) (given : Told) → fits question given ≡ true
      → ((path : Names) (content : Option Content) → question ≡ asks.Content path → given ≡ told.Content content → option_map stamp content ≡ option_map stamp (finite.get sources path) → content ≡ finite.get sources path)
      → kept_as (answer sources settings readings dir question) ≡ kept_as given → given ≡ answer sources settings readings dir question
  same_told (asks.Content path) (told.Content content) fit contents e =
      let stamps : option_map stamp content ≡ option_map stamp (finite.get sources path) = cc in
      ap (λ c. told.Content c) (contents path content refl refl stamps)
  same_told (asks.Config name) (told.Config value) fit contents e = cc
  same_told (asks.Names folder) (told.Names names) fit contents e = cc
  same_told (asks.Kind path) (told.Kind kind) fit contents e = cc
  same_told (asks.Content path) (told.Config value) fit contents e = cc
  same_told (asks.Content path) (told.Names names) fit contents e = cc
  same_told (asks.Content path) (told.Kind kind) fit contents e = cc
  same_told (asks.Config name) (told.Content content) fit contents e = cc
  same_told (asks.Config name) (told.Names names) fit contents e = cc
  same_told (asks.Config name) (told.Kind kind) fit contents e = cc
  same_told (asks.Names folder) (told.Content content) fit contents e = cc
  same_told (asks.Names folder) (told.Config value) fit contents e = cc
  same_told (asks.Names folder) (told.Kind kind) fit contents e = cc
  same_told (asks.Kind path) (told.Content content) fit contents e = cc
  same_told (asks.Kind path) (told.Config value) fit contents e = cc
  same_told (asks.Kind path) (told.Names names) fit contents e = cc

  -- all that a log says is answered now
  log_answered : (log : Log) → AllFit log → AllStand sources settings readings dir (noted_log log)
      → ((path : Names) (content : Option Content) → Contains log (asks.Content path, told.Content content) → option_map stamp content ≡ option_map stamp (finite.get sources path) → content ≡ finite.get sources path)
      → IsAnswered sources settings readings dir log
  log_answered log fit stand contents question given e =
      let one : Stands sources settings readings dir (question, kept_as given) = All-contains (Stands sources settings readings dir) (noted_log log) (question, kept_as given) stand (noted_there log question given e) in (
        one.0,
        same_told question given (fit question given e)
            (λ path content asked was. contents path content (subst (λ (entry : Question × Told). Contains log entry) (λ i. (asked i, was i)) (told_there log question given e)))
            one.1,
      )

  pub reading_stands : (left : Reading) → IsTrueBeside sources dir left → AllStand sources settings readings dir left.asked → IsReadingOver sources settings readings dir left
  reading_stands left is stand = record {
    log = is.log;
    answered = log_answered is.log (fit_from_start is.log (reading dir) (Ok left.drafts) is.ran) (subst (AllStand sources settings readings dir) is.noted stand) is.contents;
    ran = is.ran;
    noted = is.noted;
  }

  pub reading_waits : (left : Reading) (next : Names) → IsTrue (has_tupfile sources dir) → IsTrueBeside sources dir left → StandUpTo sources settings readings dir left.asked next → WaitsFor sources settings readings dir next
  reading_waits left next has is up = record {
    has = has;
    log = place.0;
    answered = log_answered place.0 (fit_where_it_stands place.0 (reading dir) place.1.0 halts) (subst (AllStand sources settings readings dir) (sym place.4) up.stand)
        (λ path content there. is.contents path content (subst (λ (l : Log). Contains l (asks.Content path, told.Content content)) (sym place.3) (Contains-append_left place.0 (place.1 ∷ place.2) (asks.Content path, told.Content content) there)));
    question = place.1.0;
    halts = halts;
    waits = ap (λ (one : Question × Noted). awaited sources readings dir one.0) place.5 ∙ up.waits;
  }
    where
      place : (pre : Log) × (it : Question × Told) × (post : Log) × (is.log ≡ pre ++ it ∷ post) × (noted_log pre ≡ up.before) × ((it.0, kept_as it.1) ≡ up.one)
      place = cut_before (λ (entry : Question × Told). (entry.0, kept_as entry.1)) is.log up.before up.one up.after (sym is.noted ∙ up.are)

      halts : Halts [] (reading dir) place.0 place.1.0
      halts = halted_from_start is.log (reading dir) (Ok left.drafts) place.0 place.2 place.1 is.ran place.3

  -- ---- answers that are compared one after another

  -- one more stands
  pub stand_more : (asked : List (Question × Noted)) (i : ℕ) (one d : Question × Noted) → i < length asked → one ≡ get_or asked i d → AllStand sources settings readings dir (take i asked) → Stands sources settings readings dir one
      → AllStand sources settings readings dir (take (i + 1) asked)
  stand_more asked i one d less here before so = All-more (Stands sources settings readings dir) asked i d less before (subst (Stands sources settings readings dir) here so)

  -- all do
  pub stand_all : (asked : List (Question × Noted)) (i : ℕ) → length asked ≤ i → AllStand sources settings readings dir (take i asked) → AllStand sources settings readings dir asked
  stand_all asked i whole so = subst (AllStand sources settings readings dir) (take_all i asked whole) so

  -- one is another one
  pub one_other : (asked : List (Question × Noted)) (i : ℕ) (one d : Question × Noted) → i < length asked → one ≡ get_or asked i d → IsOther sources settings readings dir one → OneIsOther sources settings readings dir asked
  one_other asked i one d less here other = (one, (i, less, get_or_default asked i one d less ∙ sym here), other)

  -- one waits
  pub up_to : (asked : List (Question × Noted)) (i : ℕ) (one d : Question × Noted) (next : Names) → i < length asked → one ≡ get_or asked i d → AllStand sources settings readings dir (take i asked)
      → awaited sources readings dir one.0 ≡ Some next → StandUpTo sources settings readings dir asked next
  up_to asked i one d next less here before waits = record {
    before = take i asked;
    one = one;
    after = drop (i + 1) asked;
    are = sym (take-append-drop i asked) ∙ ap (λ l. take i asked ++ l) (drop_more asked i d less ∙ ap (λ x. x ∷ drop (i + 1) asked) (sym here));
    stand = before;
    waits = waits;
  }

  -- the comparing ends where an answer waits, or memory is wanting
  pub ends_there : (asked : List (Question × Noted)) (i : ℕ) (one d : Question × Noted) (stop : Stop) → i < length asked → one ≡ get_or asked i d → AllStand sources settings readings dir (take i asked)
      → IsWait (awaited sources readings dir one.0) stop → HasCompared sources settings readings dir asked (Err stop)
  ends_there asked i one d (Awaits next) less here before waits = up_to asked i one d next less here before waits
  ends_there asked i one d Memory less here before waits = tt
