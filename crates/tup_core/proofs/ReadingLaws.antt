-- Entries that were all looked at.
use Rattle.std.proofs.Common.{◌≡◌, ℕ, zero, suc, ◌+◌, ◌<◌, ◌≤◌, true, false, List, [], ◌∷◌, Option, None, Some, length, get_or, refl, sym, ap, ◌∙◌, inl, inr, arith}
use Rattle.std.specs.Prelude.{IsSome, is_some}
use Rattle.std.proofs.lemmas.Bool.{true≢false, cases_lt, cases_eq}
use Rattle.std.proofs.lemmas.List.{get_or_read}
use Rattle.std.proofs.lemmas.Option.{unwrap_or-slice_get}
use Rattle.tup_core.specs.Machine.{entry}

entry_past : {A : Type 0} (entries : List (Option A)) (at : ℕ) → length entries ≤ at → entry entries at ≡ None
entry_past [] at past = refl
entry_past (one ∷ entries) zero past = absurd (omega (arith, past))
entry_past (one ∷ entries) (suc at) past = entry_past entries at (omega (arith, past))

pub all_none : {A : Type 0} (entries : List (Option A)) (count : ℕ) → length entries ≤ count → ((at : ℕ) → at < count → entry entries at ≡ None) → (at : ℕ) → entry entries at ≡ None
all_none entries count past looked at = elim (cases_lt at count) [ inl less ↦ looked at less | inr beyond ↦ entry_past entries at (omega (arith, past, beyond)) ]

pub none_more : {A : Type 0} (entries : List (Option A)) (count : ℕ) → ((at : ℕ) → at < count → entry entries at ≡ None) → entry entries count ≡ None → (at : ℕ) → at < count + 1 → entry entries at ≡ None
none_more entries count looked here at less =
    elim (cases_eq at count) [ inl same ↦ ap (entry entries) same ∙ here | inr apart ↦ looked at (omega (arith, less, apart)) ]

some_none : {A : Type 0} (found : Option A) → IsSome found → found ≡ None → ⊥
some_none found some none = true≢false (sym some ∙ ap is_some none)

pub none_bad : {A : Type 0} (entries : List (Option A)) → ((at : ℕ) → entry entries at ≡ None) → ((at : ℕ) × IsSome (entry entries at)) → ⊥
none_bad entries none some = some_none (entry entries some.0) some.1 (none some.0)

-- an entry that was read is the one there
pub entry_read : {A : Type 0} (entries : List (Option A)) (at : ℕ) (item : Option A) → at < length entries → item ≡ get_or entries at item → entry entries at ≡ item
entry_read entries at item within is = unwrap_or-slice_get entries at None ∙ sym (get_or_read entries at item within is None)

pub none_is : {A : Type 0} (item : Option A) → is_some item ≡ false → item ≡ None
none_is None down = refl
none_is (Some x) down = absurd (true≢false down)

pub some_there : {A : Type 0} (entries : List (Option A)) (at : ℕ) (item : Option A) → entry entries at ≡ item → is_some item ≡ true → ((n : ℕ) → entry entries n ≡ None) → ⊥
some_there entries at item is up none = some_none item up (sym is ∙ none at)

pub bad_there : {A : Type 0} (entries : List (Option A)) (at : ℕ) (item : Option A) → entry entries at ≡ item → is_some item ≡ true → (n : ℕ) × IsSome (entry entries n)
bad_there entries at item is up = (at, ap is_some is ∙ up)
