-- Where a process stands, by its log.
use Rattle.std.proofs.Common.{◌≡◌, inl, inr, true, [], ◌∷◌, ◌++◌, Option, Some, None, refl, sym, ap, ◌∙◌}
use Rattle.tup_rule.specs.declared.question.Question.{Question}
use Rattle.tup_rule.specs.declared.question.Told.{Told}
use Rattle.tup_query.specs.Reads.{Reads, Ends, Asks}
use Rattle.tup_query.specs.Log.{Log, fits, told_before, Step, Halts}
use Rattle.tup_query.proofs.Runs.{told_more, told_new}

-- a step goes on with what was told before, or with a new answer of the question's kind
pub one_step : {R : Type 0} (asked : Question) (K M : Told → Type 0) (before : Option Told) → Step asked K M before → ((told : Told) → before ≡ Some told → K told → R)
    → ((told : Told) → before ≡ None → fits asked told ≡ true → M told → R) → R
one_step asked K M (Some told) step f g = f told refl step
one_step asked K M None (told, fit, step) f g = g told refl fit step

-- what a halted process was told before stays told
pub halts_keeps : {F A : Type 0} (log after : Log) (reads : Reads F A) (question asked : Question) (told : Told)
    → Halts log reads after question → told_before log asked ≡ Some told → told_before after asked ≡ Some told
halts_keeps log after (Ends result) question asked told halts before = absurd halts
halts_keeps log after (Asks first goes_on) question asked told (inl here) before = ap (λ l. told_before l asked) here.2 ∙ before
halts_keeps log after (Asks first goes_on) question asked told (inr halts) before =
    one_step first (λ t. Halts log (goes_on t) after question) (λ t. Halts (log ++ (first, t) ∷ []) (goes_on t) after question) (told_before log first) halts
    (λ t is more. halts_keeps log after (goes_on t) question asked told more before)
    (λ t is fit more. halts_keeps (log ++ (first, t) ∷ []) after (goes_on t) question asked told more (told_more log (first, t) asked told before))

-- what a process comes to with what was told to a question, or that question
abbrev or_asked : Option Told → (Told → Option Question) → Question → Option Question
or_asked (Some told) goes_on asked = goes_on told
or_asked None goes_on asked = Some asked

-- the first question of a process that a log doesn't answer
abbrev unanswered : {F A : Type 0} → Log → Reads F A → Option Question
unanswered log (Ends result) = None
unanswered log (Asks asked goes_on) = or_asked (told_before log asked) (λ told. unanswered log (goes_on told)) asked

-- at this one it stands
stands_there : {F A : Type 0} (log after : Log) (reads : Reads F A) (question : Question) → Halts log reads after question → unanswered after reads ≡ Some question
stands_there log after (Ends result) question halts = absurd halts
stands_there log after (Asks asked goes_on) question (inl here) =
    ap (λ (found : Option Told). or_asked found (λ told. unanswered after (goes_on told)) asked) (ap (λ l. told_before l asked) here.2 ∙ here.1) ∙ ap (λ q. Some q) (sym here.0)
stands_there log after (Asks asked goes_on) question (inr halts) =
    one_step asked (λ t. Halts log (goes_on t) after question) (λ t. Halts (log ++ (asked, t) ∷ []) (goes_on t) after question) (told_before log asked) halts
    (λ t is more.
    ap (λ (found : Option Told). or_asked found (λ told. unanswered after (goes_on told)) asked) (halts_keeps log after (goes_on t) question asked t more is)
    ∙ stands_there log after (goes_on t) question more)
    (λ t is fit more.
    ap (λ (found : Option Told). or_asked found (λ told. unanswered after (goes_on told)) asked) (halts_keeps (log ++ (asked, t) ∷ []) after (goes_on t) question asked t more (told_new log asked t is))
    ∙ stands_there (log ++ (asked, t) ∷ []) after (goes_on t) question more)

-- so a log tells the question
pub halts_once : {F A : Type 0} (log after : Log) (reads : Reads F A) (one other : Question) → Halts log reads after one → Halts log reads after other → one ≡ other
halts_once log after reads one other first second =
    let same : Some one ≡ Some other = sym (stands_there log after reads one first) ∙ stands_there log after reads other second in cc
