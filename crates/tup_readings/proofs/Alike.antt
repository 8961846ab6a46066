-- Runs of one process that were told alike.
pub use Rattle.tup_tupfile.proofs.Halting.{halts_keeps}
use Rattle.std.proofs.Common.{◌≡◌, ◌⊎◌, inl, inr, [], ◌∷◌, ◌++◌, Option, Some, None, Result, refl, sym, ap, ◌∙◌, subst}
use Rattle.tup_rule.specs.declared.question.Question.{Question}
use Rattle.tup_rule.specs.declared.question.Told.{Told}
use Rattle.tup_query.specs.Reads.{Reads, Ends, Asks}
use Rattle.tup_query.specs.Log.{Log, told_before, Step, Ran, Halts}
use Rattle.tup_query.proofs.Runs.{told_new, ran_keeps}

-- logs that say the same of each question that both have
abbrev pub ToldAlike : Log → Log → Type 0
ToldAlike one other = (question : Question) (a b : Told) → told_before one question ≡ Some a → told_before other question ≡ Some b → a ≡ b

-- a question that was told something
abbrev pub WasTold : Log → Question → Type 0
WasTold log question = (told : Told) × (told_before log question ≡ Some told)

-- two steps at one question
two_steps : {R : Type 0} (asked : Question) (K M L N : Told → Type 0) (before : Option Told) → Step asked K M before → Step asked L N before
    → ((told : Told) → before ≡ Some told → K told → L told → R) → ((a b : Told) → before ≡ None → M a → N b → R) → R
two_steps asked K M L N (Some told) one other f g = f told refl one other
two_steps asked K M L N None (a, fa, one) (b, fb, other) f g = g a b refl one other

-- two runs end alike
pub runs_alike : {F A : Type 0} (log one other : Log) (reads : Reads F A) (x y : Result A F) → ToldAlike one other → Ran log reads one x → Ran log reads other y → (one ≡ other) × (x ≡ y)
runs_alike log one other (Ends result) x y alike (s, e) (t, f) = (s ∙ sym t, e ∙ sym f)
runs_alike log one other (Asks asked goes_on) x y alike first second =
    two_steps asked
    (λ t. Ran log (goes_on t) one x) (λ t. Ran (log ++ (asked, t) ∷ []) (goes_on t) one x)
    (λ t. Ran log (goes_on t) other y) (λ t. Ran (log ++ (asked, t) ∷ []) (goes_on t) other y)
    (told_before log asked) first second
    (λ t is p q. runs_alike log one other (goes_on t) x y alike p q)
    (λ a b is p q.
    let ta : told_before one asked ≡ Some a = ran_keeps (log ++ (asked, a) ∷ []) one (goes_on a) x asked a p (told_new log asked a is) in
    let tb : told_before other asked ≡ Some b = ran_keeps (log ++ (asked, b) ∷ []) other (goes_on b) y asked b q (told_new log asked b is) in
    runs_alike (log ++ (asked, a) ∷ []) one other (goes_on a) x y alike p (subst (λ t. Ran (log ++ (asked, t) ∷ []) (goes_on t) other y) (sym (alike asked a b ta tb)) q))

-- a run was told something at the question at which the same process halts
pub run_tells : {F A : Type 0} (log one other : Log) (reads : Reads F A) (x : Result A F) (question : Question) → ToldAlike one other → Ran log reads one x → Halts log reads other question → WasTold one question
run_tells log one other (Ends result) x question alike ran halts = absurd halts
run_tells log one other (Asks asked goes_on) x question alike ran (inl here) = by (told_before log asked) refl ran
  where
    by : (known : Option Told) → told_before log asked ≡ known → Step asked (λ t. Ran log (goes_on t) one x) (λ t. Ran (log ++ (asked, t) ∷ []) (goes_on t) one x) known → WasTold one question
    by (Some t) is ran = let wrong : Some t ≡ None = sym is ∙ here.1 in cc
    by None is (t, fit, ran) = (t, ap (told_before one) here.0 ∙ ran_keeps (log ++ (asked, t) ∷ []) one (goes_on t) x asked t ran (told_new log asked t is))
run_tells log one other (Asks asked goes_on) x question alike ran (inr halts) =
    two_steps asked
    (λ t. Ran log (goes_on t) one x) (λ t. Ran (log ++ (asked, t) ∷ []) (goes_on t) one x)
    (λ t. Halts log (goes_on t) other question) (λ t. Halts (log ++ (asked, t) ∷ []) (goes_on t) other question)
    (told_before log asked) ran halts
    (λ t is p q. run_tells log one other (goes_on t) x question alike p q)
    (λ a b is p q.
    let ta : told_before one asked ≡ Some a = ran_keeps (log ++ (asked, a) ∷ []) one (goes_on a) x asked a p (told_new log asked a is) in
    let tb : told_before other asked ≡ Some b = halts_keeps (log ++ (asked, b) ∷ []) other (goes_on b) question asked b q (told_new log asked b is) in
    run_tells (log ++ (asked, a) ∷ []) one other (goes_on a) x question alike p (subst (λ t. Halts (log ++ (asked, t) ∷ []) (goes_on t) other question) (sym (alike asked a b ta tb)) q))

-- the same process halts twice at one question, or one of the two was told something where the other halts
pub halts_alike : {F A : Type 0} (log one other : Log) (reads : Reads F A) (first second : Question) → ToldAlike one other → Halts log reads one first → Halts log reads other second
    → (first ≡ second) ⊎ (WasTold other first ⊎ WasTold one second)
halts_alike log one other (Ends result) first second alike p q = absurd p
halts_alike log one other (Asks asked goes_on) first second alike (inl p) (inl q) = inl (p.0 ∙ sym q.0)
halts_alike log one other (Asks asked goes_on) first second alike (inl p) (inr q) = by (told_before log asked) refl q
  where
    by : (known : Option Told) → told_before log asked ≡ known → Step asked (λ t. Halts log (goes_on t) other second) (λ t. Halts (log ++ (asked, t) ∷ []) (goes_on t) other second) known
        → (first ≡ second) ⊎ (WasTold other first ⊎ WasTold one second)
    by (Some t) is q = let wrong : Some t ≡ None = sym is ∙ p.1 in cc
    by None is (t, fit, q) = inr (inl (t, ap (told_before other) p.0 ∙ halts_keeps (log ++ (asked, t) ∷ []) other (goes_on t) second asked t q (told_new log asked t is)))
halts_alike log one other (Asks asked goes_on) first second alike (inr p) (inl q) = by (told_before log asked) refl p
  where
    by : (known : Option Told) → told_before log asked ≡ known → Step asked (λ t. Halts log (goes_on t) one first) (λ t. Halts (log ++ (asked, t) ∷ []) (goes_on t) one first) known
        → (first ≡ second) ⊎ (WasTold other first ⊎ WasTold one second)
    by (Some t) is p = let wrong : Some t ≡ None = sym is ∙ q.1 in cc
    by None is (t, fit, p) = inr (inr (t, ap (told_before one) q.0 ∙ halts_keeps (log ++ (asked, t) ∷ []) one (goes_on t) first asked t p (told_new log asked t is)))
halts_alike log one other (Asks asked goes_on) first second alike (inr p) (inr q) =
    two_steps asked
    (λ t. Halts log (goes_on t) one first) (λ t. Halts (log ++ (asked, t) ∷ []) (goes_on t) one first)
    (λ t. Halts log (goes_on t) other second) (λ t. Halts (log ++ (asked, t) ∷ []) (goes_on t) other second)
    (told_before log asked) p q
    (λ t is p q. halts_alike log one other (goes_on t) first second alike p q)
    (λ a b is p q.
    let ta : told_before one asked ≡ Some a = halts_keeps (log ++ (asked, a) ∷ []) one (goes_on a) first asked a p (told_new log asked a is) in
    let tb : told_before other asked ≡ Some b = halts_keeps (log ++ (asked, b) ∷ []) other (goes_on b) second asked b q (told_new log asked b is) in
    halts_alike (log ++ (asked, a) ∷ []) one other (goes_on a) first second alike p (subst (λ t. Halts (log ++ (asked, t) ∷ []) (goes_on t) other second) (sym (alike asked a b ta tb)) q))
