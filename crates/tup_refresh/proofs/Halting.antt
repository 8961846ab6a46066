-- A run of a process stood at each question of its log before that was told.
use Rattle.std.proofs.Common.{◌≡◌, ◌⊎◌, inl, inr, true, false, cond, Bool, List, [], ◌∷◌, ◌++◌, length, map, Some, None, Result, refl, sym, ap, ◌∙◌, subst, arith, append_assoc, append-nil, length-append}
use Rattle.tup_rule.specs.declared.question.Question.{Question}
use Rattle.tup_rule.specs.declared.question.Told.{Told}
use Rattle.tup_query.specs.Reads.{Reads, Ends, Asks}
use Rattle.tup_query.specs.Log.{Log, same_question, told_before, Step, Ran, Halts}
use Rattle.tup_query.proofs.Asking.{told_push}
use Rattle.tup_readings.proofs.Logs.{one_step}

-- ---- lists

-- two ways to cut one list behind the same part
cut : {X : Type 0} (front pre post more : List X) (one new : X) → front ++ (pre ++ one ∷ post) ≡ (front ++ new ∷ []) ++ more
    → ((pre ≡ []) × (one ≡ new)) ⊎ ((rest : List X) × (pre ≡ new ∷ rest) × (rest ++ one ∷ post ≡ more))
cut [] [] post more one new e =
    let whole : one ∷ post ≡ new ∷ more = e in
    let same : one ≡ new = cc in
    inl (refl, same)
cut [] (first ∷ rest) post more one new e =
    let whole : first ∷ (rest ++ one ∷ post) ≡ new ∷ more = e in
    let same : first ≡ new = cc in
    let behind : rest ++ one ∷ post ≡ more = cc in
    inr (rest, ap (λ x. x ∷ rest) same, behind)
cut (first ∷ front) pre post more one new e =
    let whole : first ∷ (front ++ (pre ++ one ∷ post)) ≡ first ∷ ((front ++ new ∷ []) ++ more) = e in
    let behind : front ++ (pre ++ one ∷ post) ≡ (front ++ new ∷ []) ++ more = cc in
    cut front pre post more one new behind

-- nothing stands behind a list that is whole
not_longer : {X : Type 0} (front pre post : List X) (one : X) → front ≡ front ++ (pre ++ one ∷ post) → ⊥
not_longer front pre post one e =
    let n = ap length e in
    let m = length-append front (pre ++ one ∷ post) in
    let k = length-append pre (one ∷ post) in
    omega (arith, n, m, k)

-- where a list that was mapped is cut, it was cut before
pub cut_before : {X Y : Type 0} (f : X → Y) (xs : List X) (before : List Y) (one : Y) (after : List Y) → map f xs ≡ before ++ one ∷ after
    → (pre : List X) × (it : X) × (post : List X) × (xs ≡ pre ++ it ∷ post) × (map f pre ≡ before) × (f it ≡ one)
cut_before f [] [] one after e = cc
cut_before f [] (first ∷ before) one after e = cc
cut_before f (x ∷ xs) [] one after e = let here : f x ≡ one = cc in ([], x, xs, refl, refl, here)
cut_before f (x ∷ xs) (first ∷ before) one after e =
    let here : f x ≡ first = cc in
    let behind : map f xs ≡ before ++ one ∷ after = cc in
    let rest = cut_before f xs before one after behind in
    (x ∷ rest.0, rest.1, rest.2, ap (λ l. x ∷ l) rest.3, ap (λ l. f x ∷ l) rest.4 ∙ ap (λ y. y ∷ before) here, rest.5)

-- ---- logs

-- what a log tells is said by one of its entries
pub told_by : (log : Log) (question : Question) (told : Told) → told_before log question ≡ Some told
    → (pre : Log) × (entry : Question × Told) × (post : Log) × (log ≡ pre ++ entry ∷ post) × (entry ≡ (question, told))
told_by [] question told e = cc
told_by (first ∷ log) question told e = by (same_question question first.0) refl e (told_by log question told)
  where
    by : (b : Bool) → same_question question first.0 ≡ b → cond b (Some first.1) (told_before log question) ≡ Some told
        → (told_before log question ≡ Some told → (pre : Log) × (entry : Question × Told) × (post : Log) × (log ≡ pre ++ entry ∷ post) × (entry ≡ (question, told)))
        → (pre : Log) × (entry : Question × Told) × (post : Log) × (first ∷ log ≡ pre ++ entry ∷ post) × (entry ≡ (question, told))
    by true is found more = elim (told_push [] first.0 question first.1 first.1 (ap (λ b. cond b (Some first.1) None) is)) [
      | inl none ↦ absurd (nothing none)
      | inr new ↦
          let given : first.1 ≡ told = cc in
          ([], first, log, refl, (λ i. (sym new.0 i, given i)))
    ]
      where
        nothing : None ≡ Some first.1 → ⊥
        nothing none = cc
    by false is found more = let there = more found in (first ∷ there.0, there.1, there.2, ap (λ l. first ∷ l) there.3, there.4)

-- a run adds to its log
grows : {F A : Type 0} (log after : Log) (reads : Reads F A) (end : Result A F) → Ran log reads after end → (more : Log) × (after ≡ log ++ more)
grows log after (Ends result) end (same, is) = ([], same ∙ sym (append-nil log))
grows log after (Asks asked goes_on) end ran =
    one_step asked (λ t. Ran log (goes_on t) after end) (λ t. Ran (log ++ (asked, t) ∷ []) (goes_on t) after end) (told_before log asked) ran
    (λ t is more. grows log after (goes_on t) end more)
    (λ t is fit more.
    let rest = grows (log ++ (asked, t) ∷ []) after (goes_on t) end more in
    ((asked, t) ∷ rest.0, rest.1 ∙ append_assoc log ((asked, t) ∷ []) rest.0))

-- ---- processes

-- a run stood at each question of what it added, with what was told before
halted : {F A : Type 0} (log after : Log) (reads : Reads F A) (end : Result A F) (pre post : Log) (one : Question × Told) → Ran log reads after end → after ≡ log ++ (pre ++ one ∷ post)
    → Halts log reads (log ++ pre) one.0
halted log after (Ends result) end pre post one (same, is) e = absurd (not_longer log pre post one (sym same ∙ e))
halted log after (Asks asked goes_on) end pre post one ran e =
    one_step asked (λ t. Ran log (goes_on t) after end) (λ t. Ran (log ++ (asked, t) ∷ []) (goes_on t) after end) (told_before log asked) ran
    (λ t is more.
    inr (subst (Step asked (λ t. Halts log (goes_on t) (log ++ pre) one.0) (λ t. Halts (log ++ (asked, t) ∷ []) (goes_on t) (log ++ pre) one.0)) (sym is)
    (halted log after (goes_on t) end pre post one more e)))
    (λ t is fit more.
    let rest = grows (log ++ (asked, t) ∷ []) after (goes_on t) end more in
    elim (cut log pre post rest.0 one (asked, t) (sym e ∙ rest.1)) [
      | inl here ↦ inl (ap (λ (x : Question × Told). x.0) here.1, is, ap (λ l. log ++ l) here.0 ∙ append-nil log)
      | inr later ↦
          let whole : after ≡ (log ++ (asked, t) ∷ []) ++ (later.0 ++ one ∷ post) = rest.1 ∙ ap (λ l. (log ++ (asked, t) ∷ []) ++ l) (sym later.2) in
          let stood : Halts (log ++ (asked, t) ∷ []) (goes_on t) ((log ++ (asked, t) ∷ []) ++ later.0) one.0 = halted (log ++ (asked, t) ∷ []) after (goes_on t) end later.0 post one more whole in
          let same : (log ++ (asked, t) ∷ []) ++ later.0 ≡ log ++ pre = append_assoc log ((asked, t) ∷ []) later.0 ∙ ap (λ l. log ++ l) (sym later.1) in
          inr (subst (Step asked (λ t. Halts log (goes_on t) (log ++ pre) one.0) (λ t. Halts (log ++ (asked, t) ∷ []) (goes_on t) (log ++ pre) one.0)) (sym is)
          (t, fit, subst (λ l. Halts (log ++ (asked, t) ∷ []) (goes_on t) l one.0) same stood))
    ])

pub halted_from_start : {F A : Type 0} (log : Log) (reads : Reads F A) (end : Result A F) (pre post : Log) (one : Question × Told) → Ran [] reads log end → log ≡ pre ++ one ∷ post → Halts [] reads pre one.0
halted_from_start log reads end pre post one ran e = halted [] log reads end pre post one ran e
