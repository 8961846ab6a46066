-- What the whole reading leaves.
use Rattle.std.proofs.Common.{◌≡◌, Bool, true, false, cond, List, [], ◌∷◌, ◌++◌, map, Option, Some, None, option_map, Result, Ok, Err, refl, sym, ap, ◌∙◌, subst, append-nil, IsTrue}
use Rattle.std.specs.Map.{lookup}
use Rattle.tup_path.specs.Name.{Names}
use Rattle.tup_rule.specs.declared.draft.Draft.{Draft}
use Rattle.tup_rule.specs.declared.question.Question.{Question}
use Rattle.tup_rule.specs.declared.question.Told.{Told}
use Rattle.tup_rule.specs.declared.question.Noted.{Noted}
use Rattle.tup_rule.specs.declared.question.Reading.{Reading}
use Rattle.tup_rule.specs.Question.{noted}
use Rattle.tup_query.specs.declared.fault.ParseFault.{ParseFault}
use Rattle.tup_query.specs.declared.fault.ReadEnd.{ReadEnd}
use Rattle.tup_query.specs.declared.fault.ReadEnd.TheVariants.{Fault, Stopped, Memory}
use Rattle.tup_query.specs.Reads.{Reads}
use Rattle.tup_query.specs.Log.{Log, StopsAt, same_question, told_before, Ran, Says, noted_log, questions_of}
use Rattle.tup_tupfile.specs.Read.{IsReading, IsToldBy, KeepsAnswers, Agrees, AsksOnce}
use Rattle.tup_tupfile.specs.Reading.{reading}
use Rattle.tup_query.specs.Went.{Asker, AskedAre, Asks, Comes, Went}
use Rattle.tup_query.proofs.Runs.{ran_outcome}
use Rattle.tup_tupfile.proofs.Halting.{halts_once}

-- nothing is said of what was not asked
says_nothing : (answers : Question → Told) → Says answers []
says_nothing answers question told e = absurd (cc)

-- what the log of a reading says, who answers said before it
pub said : {A : Type 0} {tells : Bool} {before after : Asker} {end : Result A ReadEnd} (reads : Reads ParseFault A) → Went tells before reads after end → before.log ≡ [] → IsTrue tells → Says before.answers after.log
said {before = before} {after = after} reads went empty tells =
    let nothing : Says before.answers before.log = subst (λ l. Says before.answers l) (sym empty) (says_nothing before.answers) in
    subst (λ a. Says a after.log) (went.same tells) (went.says tells nothing)

-- ---- the end without rules
ended_comes : (IsTold : Log → Type 0) (dir : Names) (after : Asker) (end : ReadEnd) → IsTold after.log → Comes [] (reading dir) after (Err end) → IsReading IsTold dir after.stopped (Err end)
ended_comes IsTold dir after (Fault fault) told comes = (after.log, told, comes)
ended_comes IsTold dir after Stopped told (question, at, halts) = (after.log, told, question, at, halts)
ended_comes IsTold dir after Memory told comes = tt

-- what a call comes to that began with an empty log
comes_from : {A : Type 0} {tells : Bool} {before after : Asker} {end : Result A ReadEnd} (reads : Reads ParseFault A) → Went tells before reads after end → before.log ≡ [] → Comes [] reads after end
comes_from {after = after} {end = end} reads went empty = subst (λ l. Comes l reads after end) empty went.comes

pub ended_reading : {tells : Bool} {before after : Asker} (dir : Names) (end : ReadEnd) → Went tells before (reading dir) after (Err end) → before.log ≡ []
    → IsReading (IsToldBy tells before.answers) dir after.stopped (Err end)
ended_reading {tells = tells} {before = before} {after = after} dir end went empty =
    ended_comes (IsToldBy tells before.answers) dir after end (λ told. said (reading dir) went empty told) (comes_from (reading dir) went empty)

ended_agreeing : (answers : Question → Told) (reads : Reads ParseFault (List Draft)) (after : Asker) (end : ReadEnd) → Comes [] reads after (Err end) → Says answers after.log → Agrees answers reads (Err end)
ended_agreeing answers reads after (Fault fault) comes says = ran_outcome [] after.log reads (Err fault) answers comes says
ended_agreeing answers reads after Stopped (question, at, halts) says = (after.log, question, halts, says)
ended_agreeing answers reads after Memory comes says = tt

pub ended_agrees : {tells : Bool} {before after : Asker} (dir : Names) (end : ReadEnd) → Went tells before (reading dir) after (Err end) → before.log ≡ [] → IsTrue tells
    → Agrees before.answers (reading dir) (Err end)
ended_agrees {before = before} {after = after} dir end went empty told =
    ended_agreeing before.answers (reading dir) after end (comes_from (reading dir) went empty) (said (reading dir) went empty told)

-- ---- the rules
pub kept_reading : {tells : Bool} {before after : Asker} (dir : Names) (kept : Reading) → Went tells before (reading dir) after (Ok kept.drafts) → before.log ≡ [] → kept.asked ≡ noted_log after.log
    → IsReading (IsToldBy tells before.answers) dir after.stopped (Ok kept)
kept_reading {after = after} dir kept went empty asked = (after.log, (λ told. said (reading dir) went empty told), comes_from (reading dir) went empty, asked)

-- what was kept is what was told, noted
kept_told : (log : Log) (question : Question) → lookup (same_question question) (noted_log log) ≡ option_map noted (told_before log question)
kept_told [] question = refl
kept_told (entry ∷ log) question = by (kept_told log question) (same_question question entry.0)
  where
    by : lookup (same_question question) (noted_log log) ≡ option_map noted (told_before log question) → (here : Bool)
        → cond here (Some (noted entry.1)) (lookup (same_question question) (noted_log log)) ≡ option_map noted (cond here (Some entry.1) (told_before log question))
    by more true = refl
    by more false = more

keeps : (answers : Question → Told) (log : Log) → Says answers log → KeepsAnswers answers (noted_log log)
keeps answers log says question told e = by (told_before log question) refl (sym (kept_told log question) ∙ e)
  where
    by : (before : Option Told) → told_before log question ≡ before → option_map noted before ≡ Some told → told ≡ noted (answers question)
    by None is e = absurd (cc)
    by (Some before) is e = let same : noted before ≡ told = cc in sym same ∙ ap noted (sym (says question before is))

kept_agreeing : (answers : Question → Told) (reads : Reads ParseFault (List Draft)) (log : Log) (kept : Reading) → Ran [] reads log (Ok kept.drafts) → kept.asked ≡ noted_log log → Says answers log
    → Agrees answers reads (Ok kept)
kept_agreeing answers reads log kept ran asked says =
    (ran_outcome [] log reads (Ok kept.drafts) answers ran says, subst (λ (a : List (Question × Noted)). KeepsAnswers answers a) (sym asked) (keeps answers log says))

pub kept_agrees : {tells : Bool} {before after : Asker} (dir : Names) (kept : Reading) → Went tells before (reading dir) after (Ok kept.drafts) → before.log ≡ [] → kept.asked ≡ noted_log after.log → IsTrue tells
    → Agrees before.answers (reading dir) (Ok kept)
kept_agrees {before = before} {after = after} dir kept went empty asked told =
    kept_agreeing before.answers (reading dir) after.log kept (comes_from (reading dir) went empty) asked (said (reading dir) went empty told)

-- ---- what was asked
questions_noted : (log : Log) → map (λ (entry : Question × Noted). entry.0) (noted_log log) ≡ questions_of log
questions_noted [] = refl
questions_noted (entry ∷ log) = ap (λ (questions : List Question). entry.0 ∷ questions) (questions_noted log)

asked_from : {A : Type 0} {tells : Bool} {before after : Asker} {end : Result A ReadEnd} (reads : Reads ParseFault A) → Went tells before reads after end → before.log ≡ []
    → (earlier : List Question) → AskedAre before.asked earlier → Asks earlier [] reads after end
asked_from {before = before} {after = after} {end = end} reads went empty earlier asked =
    let none = subst (λ (questions : List Question). AskedAre before.asked questions) (sym (append-nil earlier)) asked in
    subst (λ l. Asks earlier l reads after end) empty (went.asks earlier (subst (λ (l : Log). AskedAre before.asked (earlier ++ questions_of l)) (sym empty) none))

ended_asking : (IsTold : Log → Type 0) (dir : Names) (earlier : List Question) (after : Asker) (end : ReadEnd) → IsTold after.log → Comes [] (reading dir) after (Err end) → Asks earlier [] (reading dir) after (Err end)
    → AsksOnce IsTold dir after.stopped earlier after.asked (Err end)
ended_asking IsTold dir earlier after (Fault fault) told comes asks = (after.log, told, comes, asks)
ended_asking IsTold dir earlier after Stopped told (stop, at, stands) (question, halts, asked) =
    (after.log, told, question, subst (StopsAt after.stopped) (halts_once [] after.log (reading dir) stop question stands halts) at, halts, asked)
ended_asking IsTold dir earlier after Memory told comes asks = tt

pub ended_asks : {tells : Bool} {before after : Asker} (dir : Names) (end : ReadEnd) → Went tells before (reading dir) after (Err end) → before.log ≡ []
    → (earlier : List Question) → AskedAre before.asked earlier → AsksOnce (IsToldBy tells before.answers) dir after.stopped earlier after.asked (Err end)
ended_asks {tells = tells} {before = before} {after = after} dir end went empty earlier asked =
    ended_asking (IsToldBy tells before.answers) dir earlier after end (λ told. said (reading dir) went empty told) (comes_from (reading dir) went empty) (asked_from (reading dir) went empty earlier asked)

pub kept_asks : {tells : Bool} {before after : Asker} (dir : Names) (kept : Reading) → Went tells before (reading dir) after (Ok kept.drafts) → before.log ≡ [] → kept.asked ≡ noted_log after.log
    → (earlier : List Question) → AskedAre before.asked earlier → AsksOnce (IsToldBy tells before.answers) dir after.stopped earlier after.asked (Ok kept)
kept_asks {after = after} dir kept went empty noted earlier asked =
    subst (λ (questions : List Question). AskedAre after.asked (earlier ++ questions)) (sym (ap (λ (l : List (Question × Noted)). map (λ (entry : Question × Noted). entry.0) l) noted ∙ questions_noted after.log))
    (asked_from (reading dir) went empty earlier asked)
