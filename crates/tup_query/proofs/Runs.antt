-- Runs of a process: one behind another, and what a log tells of every answer that agrees with it.
use Rattle.std.proofs.Common.{◌≡◌, inl, inr, Bool, true, false, cond, [], ◌∷◌, ◌++◌, Option, Some, None, Result, Ok, Err, refl, sym, ap, ◌∙◌, subst}
use Rattle.std.proofs.lemmas.Slice.Eq.{bytes_eq-Decides}
use Rattle.tup_path.proofs.Same.{same_path-decides}
use Rattle.tup_rule.specs.declared.question.Question.{Question}
use Rattle.tup_rule.specs.declared.question.Question.TheVariants as question
use Rattle.tup_rule.specs.declared.question.Told.{Told}
use Rattle.tup_query.specs.Reads.{Reads, Ends, Asks, and_then, outcome}
use Rattle.tup_query.specs.Log.{Log, same_question, told_before, Step, Ran, Halts, Says}

-- ---- logs

same_question-refl : (asked : Question) → same_question asked asked ≡ true
same_question-refl (question.Content path) = (same_path-decides path path).1 refl
same_question-refl (question.Config name) = (bytes_eq-Decides name name).1 refl
same_question-refl (question.Names dir) = (same_path-decides dir dir).1 refl
same_question-refl (question.Kind path) = (same_path-decides path path).1 refl

-- what was told before stays told
pub told_more : (log : Log) (entry : Question × Told) (asked : Question) (told : Told) → told_before log asked ≡ Some told → told_before (log ++ entry ∷ []) asked ≡ Some told
told_more [] entry asked told e = cc
told_more (first ∷ log) entry asked told e = by (told_more log entry asked told) (same_question asked first.0) e
  where
    by : (told_before log asked ≡ Some told → told_before (log ++ entry ∷ []) asked ≡ Some told) → (b : Bool)
        → cond b (Some first.1) (told_before log asked) ≡ Some told → cond b (Some first.1) (told_before (log ++ entry ∷ []) asked) ≡ Some told
    by more true e = e
    by more false e = more e

-- a new answer is told from then on
pub told_new : (log : Log) (asked : Question) (told : Told) → told_before log asked ≡ None → told_before (log ++ (asked, told) ∷ []) asked ≡ Some told
told_new [] asked told e = ap (λ b. cond b (Some told) None) (same_question-refl asked)
told_new (first ∷ log) asked told e = by (told_new log asked told) (same_question asked first.0) e
  where
    by : (told_before log asked ≡ None → told_before (log ++ (asked, told) ∷ []) asked ≡ Some told) → (b : Bool)
        → cond b (Some first.1) (told_before log asked) ≡ None → cond b (Some first.1) (told_before (log ++ (asked, told) ∷ []) asked) ≡ Some told
    by more true e = cc
    by more false e = more e

-- ---- steps

step_map : (asked : Question) (K L M N : Told → Type 0) → ((told : Told) → K told → L told) → ((told : Told) → M told → N told)
    → (before : Option Told) → Step asked K M before → Step asked L N before
step_map asked K L M N f g (Some told) step = f told step
step_map asked K L M N f g None (told, fit, step) = (told, fit, g told step)

step_case : {R : Type 0} (asked : Question) (K M : Told → Type 0) (before : Option Told) → Step asked K M before
    → ((told : Told) → before ≡ Some told → K told → R) → ((told : Told) → before ≡ None → M told → R) → R
step_case asked K M (Some told) step f g = f told refl step
step_case asked K M None (told, fit, step) f g = g told refl step

-- ---- runs

-- a run behind another is a run of both
pub ran_then : {F A B : Type 0} (log mid after : Log) (reads : Reads F A) (next : A → Reads F B) (value : A) (end : Result B F)
    → Ran log reads mid (Ok value) → Ran mid (next value) after end → Ran log (and_then reads next) after end
unfolding and_then
ran_then log mid after (Ends (Ok given)) next value end (same, is) second =
    let value_is : value ≡ given = cc in
    subst (λ v. Ran log (next v) after end) value_is (subst (λ l. Ran l (next value) after end) same second)
ran_then log mid after (Ends (Err fault)) next value end (same, is) second = cc
ran_then log mid after (Asks asked goes_on) next value end first second =
    step_map asked
    (λ told. Ran log (goes_on told) mid (Ok value)) (λ told. Ran log (and_then (goes_on told) next) after end)
    (λ told. Ran (log ++ (asked, told) ∷ []) (goes_on told) mid (Ok value)) (λ told. Ran (log ++ (asked, told) ∷ []) (and_then (goes_on told) next) after end)
    (λ told ran. ran_then log mid after (goes_on told) next value end ran second)
    (λ told ran. ran_then (log ++ (asked, told) ∷ []) mid after (goes_on told) next value end ran second)
    (told_before log asked) first

-- a run that ends with a fault is one of all that would follow
pub ran_refused : {F A B : Type 0} (log after : Log) (reads : Reads F A) (next : A → Reads F B) (fault : F)
    → Ran log reads after (Err fault) → Ran log (and_then reads next) after (Err fault)
unfolding and_then
ran_refused log after (Ends (Ok given)) next fault (same, is) = cc
ran_refused log after (Ends (Err found)) next fault (same, is) = let fault_is : fault ≡ found = cc in (same, ap Err fault_is)
ran_refused log after (Asks asked goes_on) next fault first =
    step_map asked
    (λ told. Ran log (goes_on told) after (Err fault)) (λ told. Ran log (and_then (goes_on told) next) after (Err fault))
    (λ told. Ran (log ++ (asked, told) ∷ []) (goes_on told) after (Err fault)) (λ told. Ran (log ++ (asked, told) ∷ []) (and_then (goes_on told) next) after (Err fault))
    (λ told ran. ran_refused log after (goes_on told) next fault ran)
    (λ told ran. ran_refused (log ++ (asked, told) ∷ []) after (goes_on told) next fault ran)
    (told_before log asked) first

-- ---- processes that stand at a question

-- one behind a run stands there behind both
pub halts_then : {F A B : Type 0} (log mid after : Log) (reads : Reads F A) (next : A → Reads F B) (value : A) (question : Question)
    → Ran log reads mid (Ok value) → Halts mid (next value) after question → Halts log (and_then reads next) after question
unfolding and_then
halts_then log mid after (Ends (Ok given)) next value question (same, is) second =
    let value_is : value ≡ given = cc in
    subst (λ v. Halts log (next v) after question) value_is (subst (λ l. Halts l (next value) after question) same second)
halts_then log mid after (Ends (Err fault)) next value question (same, is) second = absurd (cc)
halts_then log mid after (Asks asked goes_on) next value question first second =
    inr (step_map asked
    (λ told. Ran log (goes_on told) mid (Ok value)) (λ told. Halts log (and_then (goes_on told) next) after question)
    (λ told. Ran (log ++ (asked, told) ∷ []) (goes_on told) mid (Ok value)) (λ told. Halts (log ++ (asked, told) ∷ []) (and_then (goes_on told) next) after question)
    (λ told ran. halts_then log mid after (goes_on told) next value question ran second)
    (λ told ran. halts_then (log ++ (asked, told) ∷ []) mid after (goes_on told) next value question ran second)
    (told_before log asked) first)

-- and so does one before all that would follow
pub halts_before : {F A B : Type 0} (log after : Log) (reads : Reads F A) (next : A → Reads F B) (question : Question)
    → Halts log reads after question → Halts log (and_then reads next) after question
unfolding and_then
halts_before log after (Ends result) next question first = absurd first
halts_before log after (Asks asked goes_on) next question (inl here) = inl here
halts_before log after (Asks asked goes_on) next question (inr first) =
    inr (step_map asked
    (λ told. Halts log (goes_on told) after question) (λ told. Halts log (and_then (goes_on told) next) after question)
    (λ told. Halts (log ++ (asked, told) ∷ []) (goes_on told) after question) (λ told. Halts (log ++ (asked, told) ∷ []) (and_then (goes_on told) next) after question)
    (λ told halts. halts_before log after (goes_on told) next question halts)
    (λ told halts. halts_before (log ++ (asked, told) ∷ []) after (goes_on told) next question halts)
    (told_before log asked) first)

-- what a run began with stays told
pub ran_keeps : {F A : Type 0} (log after : Log) (reads : Reads F A) (end : Result A F) (asked : Question) (told : Told)
    → Ran log reads after end → told_before log asked ≡ Some told → told_before after asked ≡ Some told
ran_keeps log after (Ends result) end asked told (same, is) before = ap (λ l. told_before l asked) same ∙ before
ran_keeps log after (Asks first goes_on) end asked told ran before =
    step_case first (λ t. Ran log (goes_on t) after end) (λ t. Ran (log ++ (first, t) ∷ []) (goes_on t) after end) (told_before log first) ran
    (λ t is more. ran_keeps log after (goes_on t) end asked told more before)
    (λ t is more. ran_keeps (log ++ (first, t) ∷ []) after (goes_on t) end asked told more (told_more log (first, t) asked told before))

-- what a run ends with is what every one gives who says what its log says
pub ran_outcome : {F A : Type 0} (log after : Log) (reads : Reads F A) (end : Result A F) (answers : Question → Told)
    → Ran log reads after end → Says answers after → outcome answers reads ≡ end
ran_outcome log after (Ends result) end answers (same, is) says = sym is
ran_outcome log after (Asks asked goes_on) end answers ran says =
    step_case asked (λ t. Ran log (goes_on t) after end) (λ t. Ran (log ++ (asked, t) ∷ []) (goes_on t) after end) (told_before log asked) ran
    (λ t is more.
    let said : answers asked ≡ t = says asked t (ran_keeps log after (goes_on t) end asked t more is) in
    ap (λ u. outcome answers (goes_on u)) said ∙ ran_outcome log after (goes_on t) end answers more says)
    (λ t is more.
    let said : answers asked ≡ t = says asked t (ran_keeps (log ++ (asked, t) ∷ []) after (goes_on t) end asked t more (told_new log asked t is)) in
    ap (λ u. outcome answers (goes_on u)) said ∙ ran_outcome (log ++ (asked, t) ∷ []) after (goes_on t) end answers more says)
