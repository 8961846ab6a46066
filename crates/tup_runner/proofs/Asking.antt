-- One more ask of a command.
use Rattle.std.proofs.Common.{◌≡◌, ℕ, zero, suc, ◌<◌, ◌≤◌, List, [], ◌∷◌, ◌++◌, length, take, Some, refl, sym, ap, ◌∙◌, inl, inr, arith}
use Rattle.std.proofs.lemmas.Bool.{cases_lt}
use Rattle.std.proofs.lemmas.Option.{same_Some, none-some}
use Rattle.std.specs.List.{slice_get}
use Rattle.tup_runner.specs.Next.{Asks}
use Rattle.tup_runner.specs.Honest.{AsksJust}
use Rattle.tup_runner.specs.declared.step.Answer.{Answer}
use Rattle.tup_runner.specs.declared.step.Step.{Step}
use Rattle.tup_runner.specs.declared.step.Step.TheVariants.{Ask}

-- a list that has one more: its front, and the last place
front_get : {A : Type 0} (xs : List A) (x : A) (at : ℕ) → at < length xs → slice_get (xs ++ x ∷ []) at ≡ slice_get xs at
front_get [] x at below = absurd (omega arith)
front_get (y ∷ xs) x zero below = refl
front_get (y ∷ xs) x (suc at) below = front_get xs x at (omega arith)

front_take : {A : Type 0} (xs : List A) (x : A) (at : ℕ) → at ≤ length xs → take at (xs ++ x ∷ []) ≡ take at xs
front_take xs x zero below = refl
front_take [] x (suc at) below = absurd (omega arith)
front_take (y ∷ xs) x (suc at) below = ap (λ more. y ∷ more) (front_take xs x at (omega arith))

last_get : {A : Type 0} (xs : List A) (x y : A) (at : ℕ) → length xs ≤ at → slice_get (xs ++ x ∷ []) at ≡ Some y → (x ≡ y) × (take at (xs ++ x ∷ []) ≡ xs)
last_get [] x y zero above here = (same_Some x y here, refl)
last_get [] x y (suc at) above here = absurd (none-some y here)
last_get (z ∷ xs) x y zero above here = absurd (omega arith)
last_get (z ∷ xs) x y (suc at) above here = let rest = last_get xs x y at (omega arith) here in (rest.0, ap (λ more. z ∷ more) rest.1)

-- before the first ask
pub just_none : (does : Asks → Step) → AsksJust does []
just_none does = record { each = λ at ask here. absurd (none-some ask here) }

-- one more ask, with its answer
pub just_more : (does : Asks → Step) (asks : Asks) (text : List ℕ) (answer : Answer) → AsksJust does asks → does asks ≡ Ask text → AsksJust does (asks ++ (text, answer) ∷ [])
just_more does asks text answer just next = record {
  each = λ at ask here. elim (cases_lt at (length asks)) [
    | inl below ↦
        let there : slice_get asks at ≡ Some ask = sym (front_get asks (text, answer) at below) ∙ here in
        ap does (front_take asks (text, answer) at (omega arith)) ∙ just.each at ask there
    | inr above ↦
        let last = last_get asks (text, answer) ask at above here in
        ap does last.1 ∙ next ∙ ap (λ (a : List ℕ × Answer). Ask a.0) last.0
  ];
}

-- what it asks after the first asks
pub just_next : (does : Asks → Step) (before asks : Asks) (ask : List ℕ × Answer) → AsksJust does (before ++ ask ∷ asks) → does before ≡ Ask ask.0
just_next does before asks ask just =
    ap does (sym (behind_take before (ask ∷ asks))) ∙ just.each (length before) ask (behind_get before ask asks)
  where
    behind_get : (xs : Asks) (x : List ℕ × Answer) (ys : Asks) → slice_get (xs ++ x ∷ ys) (length xs) ≡ Some x
    behind_get [] x ys = refl
    behind_get (y ∷ xs) x ys = behind_get xs x ys

    behind_take : (xs ys : Asks) → take (length xs) (xs ++ ys) ≡ xs
    behind_take [] ys = refl
    behind_take (x ∷ xs) ys = ap (λ more. x ∷ more) (behind_take xs ys)
