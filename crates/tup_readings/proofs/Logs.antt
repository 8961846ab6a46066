-- What is in the log of a reading.
pub use Rattle.tup_tupfile.proofs.Halting.{one_step}
use Rattle.std.proofs.Common.{◌≡◌, inl, inr, true, [], ◌∷◌, ◌++◌, Some, Result, sym, subst}
use Rattle.tup_rule.specs.declared.question.Question.{Question}
use Rattle.tup_rule.specs.declared.question.Told.{Told}
use Rattle.tup_query.specs.Reads.{Reads, Ends, Asks}
use Rattle.tup_query.specs.Log.{Log, fits, told_before, Ran, Halts}
use Rattle.tup_query.proofs.Asking.{told_push}

-- each answer is of its question's kind
abbrev pub AllFit : Log → Type 0
AllFit log = (question : Question) (told : Told) → told_before log question ≡ Some told → fits question told ≡ true

none_unfit : AllFit []
none_unfit question told e = cc

one_more : (log : Log) (asked : Question) (told : Told) → AllFit log → fits asked told ≡ true → AllFit (log ++ (asked, told) ∷ [])
one_more log asked told all fit other found e =
    elim (told_push log asked other told found e) [
      | inl before ↦ all other found before
      | inr new ↦ subst (λ q. fits q found ≡ true) (sym new.0) (subst (λ t. fits asked t ≡ true) new.1 fit)
    ]

-- so it stays in a run
ran_fit : {F A : Type 0} (log after : Log) (reads : Reads F A) (end : Result A F) → AllFit log → Ran log reads after end → AllFit after
ran_fit log after (Ends result) end all (same, is) = subst AllFit (sym same) all
ran_fit log after (Asks asked goes_on) end all ran =
    one_step asked (λ t. Ran log (goes_on t) after end) (λ t. Ran (log ++ (asked, t) ∷ []) (goes_on t) after end) (told_before log asked) ran
    (λ t is more. ran_fit log after (goes_on t) end all more)
    (λ t is fit more. ran_fit (log ++ (asked, t) ∷ []) after (goes_on t) end (one_more log asked t all fit) more)

-- and up to where a process stands
halts_fit : {F A : Type 0} (log after : Log) (reads : Reads F A) (question : Question) → AllFit log → Halts log reads after question → AllFit after
halts_fit log after (Ends result) question all halts = absurd halts
halts_fit log after (Asks asked goes_on) question all (inl (is, new, same)) = subst AllFit (sym same) all
halts_fit log after (Asks asked goes_on) question all (inr halts) =
    one_step asked (λ t. Halts log (goes_on t) after question) (λ t. Halts (log ++ (asked, t) ∷ []) (goes_on t) after question) (told_before log asked) halts
    (λ t is more. halts_fit log after (goes_on t) question all more)
    (λ t is fit more. halts_fit (log ++ (asked, t) ∷ []) after (goes_on t) question (one_more log asked t all fit) more)

pub fit_from_start : {F A : Type 0} (after : Log) (reads : Reads F A) (end : Result A F) → Ran [] reads after end → AllFit after
fit_from_start after reads end ran = ran_fit [] after reads end none_unfit ran

pub fit_where_it_stands : {F A : Type 0} (after : Log) (reads : Reads F A) (question : Question) → Halts [] reads after question → AllFit after
fit_where_it_stands after reads question halts = halts_fit [] after reads question none_unfit halts
