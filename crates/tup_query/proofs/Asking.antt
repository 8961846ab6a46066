-- A log with one more answer.
use Rattle.std.proofs.Common.{◌≡◌, ◌⊎◌, inl, inr, Bool, true, false, cond, IsTrue, List, [], ◌∷◌, ◌++◌, Option, Some, None, is_some, option_map, Ok, Err, refl, sym, ap, ◌∙◌, subst, append_assoc}
use Rattle.tup_rule.specs.declared.question.Question.{Question}
use Rattle.tup_rule.specs.declared.question.Told.{Told}
use Rattle.tup_query.specs.declared.fault.ParseFault.{ParseFault}
use Rattle.tup_query.specs.declared.fault.ReadEnd.{ReadEnd}
use Rattle.tup_query.specs.declared.fault.ReadEnd.TheVariants.{Stopped}
use Rattle.tup_query.specs.Reads.{Reads, gives, and_then}
use Rattle.tup_query.specs.Log.{Log, same_question, fits, StopsAt, told_before, Step, Ran, Says, questions_of}
use Rattle.tup_query.specs.Key.{same_question-true}
use Rattle.tup_query.specs.Ask.{asks}
use Rattle.tup_query.specs.Went.{Asker, AskedAre, asker, Went}
use Rattle.tup_query.proofs.Went.{went_then, went_err, went_gives}

-- what a longer log tells it told before, or it is the last answer
pub told_push : (log : Log) (asked other : Question) (told found : Told) → told_before (log ++ (asked, told) ∷ []) other ≡ Some found
    → (told_before log other ≡ Some found) ⊎ ((other ≡ asked) × (told ≡ found))
told_push [] asked other told found e = by (same_question other asked) refl e
  where
    by : (b : Bool) → same_question other asked ≡ b → cond b (Some told) None ≡ Some found → (None ≡ Some found) ⊎ ((other ≡ asked) × (told ≡ found))
    by true same e = inr (same_question-true other asked same, cc)
    by false same e = inl e
told_push (first ∷ log) asked other told found e = by (told_push log asked other told found) (same_question other first.0) e
  where
    by : (told_before (log ++ (asked, told) ∷ []) other ≡ Some found → (told_before log other ≡ Some found) ⊎ ((other ≡ asked) × (told ≡ found))) → (b : Bool) → cond b (Some first.1) (told_before (log ++ (asked, told) ∷ []) other) ≡ Some found
        → (cond b (Some first.1) (told_before log other) ≡ Some found) ⊎ ((other ≡ asked) × (told ≡ found))
    by more true e = inl e
    by more false e = more e

-- one who answered a new question says what the longer log says
pub says_more : (answers : Question → Told) (log : Log) (asked : Question) (told : Told) → Says answers log → told ≡ answers asked → Says answers (log ++ (asked, told) ∷ [])
says_more answers log asked told says is other found e =
    elim (told_push log asked other told found e) [
      | inl before ↦ says other found before
      | inr new ↦ ap answers new.0 ∙ sym is ∙ new.1
    ]

-- one who was asked a question more
abbrev with_asked : Option (List Question) → Question → Option (List Question)
with_asked asked question = option_map (λ (questions : List Question). questions ++ question ∷ []) asked

asked_more : (asked : Option (List Question)) (earlier : List Question) (log : Log) (question : Question) → AskedAre asked (earlier ++ questions_of log)
    → AskedAre (with_asked asked question) (earlier ++ (questions_of log ++ question ∷ []))
asked_more None earlier log question was = tt
asked_more (Some asked) earlier log question was = ap (λ (questions : List Question). questions ++ question ∷ []) was ∙ append_assoc earlier (questions_of log) (question ∷ [])

questions_more : (log : Log) (question : Question) (told : Told) → questions_of (log ++ (question, told) ∷ []) ≡ questions_of log ++ question ∷ []
questions_more [] question told = refl
questions_more (first ∷ log) question told = ap (λ (questions : List Question). first.0 ∷ questions) (questions_more log question told)

-- ---- a question that is asked

-- what was told before is the answer
pub asked_before : (tells : Bool) (before : Asker) (question : Question) (told : Told) → is_some before.stopped ≡ false → told_before before.log question ≡ Some told → Went tells before (asks question) before (Ok told)
unfolding asks
asked_before tells before question told on known = record {
  comes = subst (Step question (λ known. Ran before.log (gives known) before.log (Ok told)) (λ answer. Ran (before.log ++ (question, answer) ∷ []) (gives answer) before.log (Ok told))) (sym known) (refl, refl);
  stopped = on;
  same = λ tells. refl;
  says = λ tells says. says;
  asks = λ earlier asked. asked;
}

-- a new question is asked, and its answer is kept
pub asked_new : (tells : Bool) (before : Asker) (answers : Question → Told) (stopped : Option (Question → Bool)) (asked : Option (List Question)) (question : Question) (told : Told)
    → told_before before.log question ≡ None → fits question told ≡ true → is_some stopped ≡ false
    → (IsTrue tells → told ≡ before.answers question) → (IsTrue tells → answers ≡ before.answers)
    → asked ≡ option_map (λ (questions : List Question). questions ++ question ∷ []) before.asked
    → Went tells before (asks question) (asker answers stopped asked (before.log ++ (question, told) ∷ [])) (Ok told)
unfolding asks
asked_new tells before answers stopped asked question told unknown fit on is same more = record {
  comes = subst (Step question (λ known. Ran before.log (gives known) (before.log ++ (question, told) ∷ []) (Ok told)) (λ answer. Ran (before.log ++ (question, answer) ∷ []) (gives answer) (before.log ++ (question, told) ∷ []) (Ok told))) (sym unknown)
      (told, fit, (refl, refl));
  stopped = on;
  same = same;
  says = λ tells says other found e. ap (λ (a : Question → Told). a other) (same tells) ∙ says_more before.answers before.log question told says (is tells) other found e;
  asks = λ earlier was. subst (λ (a : Option (List Question)). AskedAre a (earlier ++ questions_of (before.log ++ (question, told) ∷ []))) (sym more)
      (subst (λ (questions : List Question). AskedAre (with_asked before.asked question) (earlier ++ questions)) (sym (questions_more before.log question told)) (asked_more before.asked earlier before.log question was));
}

-- one who has stopped at a question has stopped
stop_is : (stopped : Option (Question → Bool)) (question : Question) → StopsAt stopped question → is_some stopped ≡ true
stop_is None question at = absurd at
stop_is (Some test) question at = refl

-- who answers has stopped at a new question
pub has_stopped : (tells : Bool) (before : Asker) (answers : Question → Told) (stopped : Option (Question → Bool)) (asked : Option (List Question)) (question : Question) → told_before before.log question ≡ None
    → StopsAt stopped question → (IsTrue tells → answers ≡ before.answers)
    → asked ≡ option_map (λ (questions : List Question). questions ++ question ∷ []) before.asked
    → Went tells before (asks question) (asker answers stopped asked before.log) (Err Stopped)
unfolding asks
has_stopped tells before answers stopped asked question unknown on same more = record {
  comes = (question, on, inl (refl, unknown, refl));
  stopped = stop_is stopped question on;
  same = same;
  says = λ tells says other found e. ap (λ (a : Question → Told). a other) (same tells) ∙ says other found e;
  asks = λ earlier was. (question, inl (refl, unknown, refl), subst (λ (a : Option (List Question)). AskedAre a (earlier ++ (questions_of before.log ++ question ∷ []))) (sym more) (asked_more before.asked earlier before.log question was));
}

-- an answer that is read
pub answered : {A : Type 0} {tells : Bool} {before after : Asker} {told : Told} (question : Question) (f : Told → A) → Went tells before (asks question) after (Ok told) → Went tells before (and_then (asks question) (λ told. gives (f told))) after (Ok (f told))
answered {tells = tells} {after = after} {told = told} question f went = went_then (λ told. gives (f told)) went (went_gives tells after (f told) went.stopped)

pub unanswered : {A : Type 0} {tells : Bool} {before after : Asker} {end : ReadEnd} (question : Question) (f : Told → A) → Went tells before (asks question) after (Err end) → Went tells before (and_then (asks question) (λ told. gives (f told))) after (Err end)
unanswered question f went = went_err (λ told. gives (f told)) went
