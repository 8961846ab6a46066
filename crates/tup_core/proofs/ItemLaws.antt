-- What stands at a place of a list, which is a default past its end, once one place is written.
use Rattle.std.proofs.Common.{◌≡◌, ℕ, zero, suc, ◌<◌, Bool, true, false, List, [], ◌∷◌, ◌++◌, length, replicate, sym, refl, ◌∙◌, inl, inr, arith}
use Rattle.std.specs.Prelude.{slice_get, slice_set, unwrap_or}
use Rattle.std.proofs.lemmas.Bool.{true≢false}
use Rattle.std.proofs.lemmas.Option.{unwrap_or-slice_get}
use Rattle.std.proofs.lemmas.List.{get_or-set_same, get_or-set_other, get_or_append_left}
use Rattle.tup_core.specs.Step.{changed}
use Rattle.tup_core.specs.Waiting.{flag, number}
use Rattle.tup_core.proofs.Changed.{changed_cases}

pub set_same : {A : Type 0} (xs : List A) (at : ℕ) (value default : A) → at < length xs → unwrap_or (slice_get (slice_set xs at value) at) default ≡ value
set_same xs at value default within = unwrap_or-slice_get (slice_set xs at value) at default ∙ get_or-set_same xs at value default within

pub set_other : {A : Type 0} (xs : List A) (at other : ℕ) (value default : A) → (other ≡ at → ⊥) → unwrap_or (slice_get (slice_set xs at value) other) default ≡ unwrap_or (slice_get xs other) default
set_other xs at other value default apart =
    unwrap_or-slice_get (slice_set xs at value) other default ∙ get_or-set_other xs at other value default apart ∙ sym (unwrap_or-slice_get xs other default)

-- all places together
pub items_set : {A : Type 0} (xs : List A) (at : ℕ) (value default : A) → at < length xs →
    (λ (n : ℕ). unwrap_or (slice_get (slice_set xs at value) n) default) ≡ changed (λ (n : ℕ). unwrap_or (slice_get xs n) default) at value
items_set {A} xs at value default within = λ i n. each n i
  where
    each : (n : ℕ) → unwrap_or (slice_get (slice_set xs at value) n) default ≡ changed (λ (m : ℕ). unwrap_or (slice_get xs m) default) at value n
    each n =
        elim (changed_cases (λ (m : ℕ). unwrap_or (slice_get xs m) default) at value n) [
          | inl here ↦ (λ i. unwrap_or (slice_get (slice_set xs at value) (here.0 i)) default) ∙ set_same xs at value default within ∙ sym here.1
          | inr apart ↦ set_other xs at n value default apart.0 ∙ sym apart.1
        ]

-- a flag that is up, or a number that isn't 0, stands within its list
pub flag_within : (flags : List Bool) (at : ℕ) → flag flags at ≡ true → at < length flags
flag_within [] at up = absurd (true≢false (sym up))
flag_within (one ∷ flags) zero up = omega arith
flag_within (one ∷ flags) (suc at) up = let rest = flag_within flags at up in omega arith

pub number_within : (numbers : List ℕ) (at : ℕ) → 0 < number numbers at → at < length numbers
number_within [] at some = absurd (omega arith)
number_within (one ∷ numbers) zero some = omega arith
number_within (one ∷ numbers) (suc at) some = let rest = number_within numbers at some in omega arith

-- what stands in front stays
pub number_front : (numbers : List ℕ) (last at : ℕ) → at < length numbers → number (numbers ++ last ∷ []) at ≡ number numbers at
number_front numbers last at within =
    unwrap_or-slice_get (numbers ++ last ∷ []) at 0 ∙ get_or_append_left numbers (last ∷ []) 0 at within ∙ sym (unwrap_or-slice_get numbers at 0)

-- flags that were never raised, numbers that were never counted up, and entries that were never filled
pub flag_none : (count at : ℕ) → flag (replicate count false) at ≡ false
flag_none zero at = refl
flag_none (suc count) zero = refl
flag_none (suc count) (suc at) = flag_none count at
