-- The rules that the seats of an update run, as a list.
use Rattle.std.proofs.Common.{◌≡◌, ◌<◌, ◌≤◌, ◌⊎◌, inl, inr, ℕ, zero, suc, List, [], ◌∷◌, ◌++◌, length, append_assoc, Option, Some, None, refl, sym, ap, ap₂, subst, arith, ◌∙◌}
use Rattle.std.specs.List.Sorted.{IsPermutation}
use Rattle.std.specs.Option.{option_map}
use Rattle.std.proofs.lemmas.Bool.{cases_order}
use Rattle.std.proofs.lemmas.List.Sorted.{IsPermutation-append_comm, IsPermutation-append_left, IsPermutation-append_right, IsPermutation-refl, IsPermutation-trans, length_permutation}
use Rattle.tup_core.specs.declared.running.Running.{Running}
use Rattle.tup_core.specs.Step.{changed}
use Rattle.tup_core.proofs.Changed.{changed_cases, changed_here}

-- what a seat runs, as a list
abbrev pub running_of : Option Running → List ℕ
running_of None = []
running_of (Some it) = it.rule ∷ []

-- and what the first so many seats run
abbrev pub at_work : ℕ → (ℕ → Option Running) → List ℕ
at_work zero seats = []
at_work (suc n) seats = running_of (seats n) ++ at_work n seats

-- at each other number there is what was there
pub others : {A : Type 0} (values : ℕ → A) (at : ℕ) (value : A) (other : ℕ) → (other ≡ at → ⊥) → changed values at value other ≡ values other
others values at value other apart = elim (changed_cases values at value other) [
  | inl same ↦ absurd (apart same.0)
  | inr there ↦ there.1
]

-- two lists in front of a third may change places
pub swap_front : (xs ys zs : List ℕ) → IsPermutation (xs ++ (ys ++ zs)) (ys ++ (xs ++ zs))
swap_front xs ys zs =
    subst (λ (l : List ℕ). IsPermutation l (ys ++ (xs ++ zs))) (append_assoc xs ys zs)
    (subst (IsPermutation ((xs ++ ys) ++ zs)) (append_assoc ys xs zs) (IsPermutation-append_left zs (xs ++ ys) (ys ++ xs) (IsPermutation-append_comm xs ys)))

-- ---- seats that run the same
pub work_same : (n : ℕ) (old new : ℕ → Option Running) → ((i : ℕ) → i < n → running_of (new i) ≡ running_of (old i)) → at_work n new ≡ at_work n old
work_same zero old new same = refl
work_same (suc n) old new same =
    ap₂ (λ (xs ys : List ℕ). xs ++ ys) (same n (omega arith)) (work_same n old new (λ i less. same i (omega (arith, less))))

-- a seat whose command goes on runs its rule still
pub same_running : (seats : ℕ → Option Running) (seat : ℕ) (change : Running → Running) → ((it : Running) → (change it).rule ≡ it.rule) → (n : ℕ)
    → at_work n (changed seats seat (option_map change (seats seat))) ≡ at_work n seats
same_running seats seat change keeps n =
    work_same n seats (changed seats seat (option_map change (seats seat))) (λ i less. elim (changed_cases seats seat (option_map change (seats seat)) i) [
      | inl same ↦ ap running_of same.1 ∙ kept (seats seat) ∙ ap (λ (m : ℕ). running_of (seats m)) (sym same.0)
      | inr there ↦ ap running_of there.1
    ])
  where
    kept : (it : Option Running) → running_of (option_map change it) ≡ running_of it
    kept None = refl
    kept (Some it) = ap (λ (rule : ℕ). rule ∷ []) (keeps it)

pub work_none : (n : ℕ) (seats : ℕ → Option Running) → ((i : ℕ) → seats i ≡ None) → at_work n seats ≡ []
work_none zero seats none = refl
work_none (suc n) seats none = ap₂ (λ (xs ys : List ℕ). xs ++ ys) (ap running_of (none n)) (work_none n seats none)

-- ---- a seat that runs nothing any more
-- the others run what they ran, beside what it ran
pub work_emptied : (n seat : ℕ) (old new : ℕ → Option Running) → seat < n → running_of (new seat) ≡ [] → ((i : ℕ) → (i ≡ seat → ⊥) → running_of (new i) ≡ running_of (old i))
    → IsPermutation (at_work n old) (running_of (old seat) ++ at_work n new)
work_emptied zero seat old new below none same = absurd (omega (arith, below))
work_emptied (suc n) seat old new below none same = by (cases_order seat n) (λ less. work_emptied n seat old new less none same)
  where
    this : List ℕ
    this = running_of (old seat)

    by : (seat ≡ n) ⊎ ((seat < n) ⊎ (n < seat)) → (seat < n → IsPermutation (at_work n old) (this ++ at_work n new))
        → IsPermutation (running_of (old n) ++ at_work n old) (this ++ (running_of (new n) ++ at_work n new))
    by (inl here) before =
        let rest : at_work n old ≡ running_of (new n) ++ at_work n new =
        sym (work_same n old new (λ i less. same i (λ e. omega (arith, less, e, here))))
        ∙ ap (λ (xs : List ℕ). xs ++ at_work n new) (sym none ∙ ap (λ (m : ℕ). running_of (new m)) here) in
        subst (IsPermutation (running_of (old n) ++ at_work n old))
        (ap₂ (λ (xs ys : List ℕ). xs ++ ys) (ap (λ (m : ℕ). running_of (old m)) (sym here)) rest)
        (IsPermutation-refl (running_of (old n) ++ at_work n old))
    by (inr (inl less)) before =
        let last : running_of (new n) ≡ running_of (old n) = same n (λ e. omega (arith, less, e)) in
        subst (λ (q : List ℕ). IsPermutation (running_of (old n) ++ at_work n old) (this ++ (q ++ at_work n new))) (sym last)
        (IsPermutation-trans (running_of (old n) ++ at_work n old) (running_of (old n) ++ (this ++ at_work n new)) (this ++ (running_of (old n) ++ at_work n new))
        (IsPermutation-append_right (running_of (old n)) (at_work n old) (this ++ at_work n new) (before less))
        (swap_front (running_of (old n)) this (at_work n new)))
    by (inr (inr more)) before = absurd (omega (arith, below, more))

-- ---- how many run
pub work_few : (n : ℕ) (seats : ℕ → Option Running) → length (at_work n seats) ≤ n
work_few zero seats = omega arith
work_few (suc n) seats = by (seats n) (work_few n seats)
  where
    by : (it : Option Running) → length (at_work n seats) ≤ n → length (running_of it ++ at_work n seats) ≤ suc n
    by None few = omega (arith, few)
    by (Some it) few = omega (arith, few)

-- where one of them runs none, fewer do
pub work_free : (n seat : ℕ) (seats : ℕ → Option Running) → seat < n → seats seat ≡ None → length (at_work n seats) < n
work_free n seat seats below none =
    let long = length_permutation (at_work n put) (running_of (put seat) ++ at_work n seats) more in
    let one : length (running_of (put seat) ++ at_work n seats) ≡ suc (length (at_work n seats)) = ap (λ (it : Option Running). length (running_of it ++ at_work n seats)) (changed_here seats seat (Some any)) in
    let few = work_few n put in
    omega (arith, long, one, few)
  where
    any : Running
    any = record { rule = 0; asks = []; denied = None }

    put : ℕ → Option Running
    put = changed seats seat (Some any)

    more : IsPermutation (at_work n put) (running_of (put seat) ++ at_work n seats)
    more = work_emptied n seat put seats below (ap running_of none) (λ i apart. ap running_of (sym (others seats seat (Some any) i apart)))
