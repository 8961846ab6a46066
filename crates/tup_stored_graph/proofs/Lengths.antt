-- Edits for which a store has no room: one of their records is longer than any store, or the store would be too large.
use Rattle.std.proofs.Common.{ℕ, ◌^◌, ◌<◌, ◌≤◌, List, [], ◌∷◌, length, All, Contains, inl, inr, ◌⊎◌, ⊎_elim}
use Rattle.std.specs.List.{AllByRecursion}
use Rattle.std.proofs.lemmas.Bool.{cases_lt}
use Rattle.std.proofs.lemmas.List.Elements.{All-from_recursion, All-weaker, Contains-append_left, Contains-append_right, Contains-push}
use Rattle.tup_record.specs.Spelling.{IsLong, IsWritable, value_of}
use Rattle.tup_record.specs.declared.record.Record.{Record}
use Rattle.tup_record.proofs.Long.{fitting_is_writable, short_is_writable}
use Rattle.tup_graph.specs.Edits.{HasSpelling, IsEditLong, IsEditWritable}
use Rattle.tup_graph.specs.declared.edit.Edit.{Edit}
use Rattle.tup_graph.specs.declared.edit.Edit.TheVariants.{Put, Remove}
use Rattle.tup_stored_graph.specs.Held.{Held}
use Rattle.tup_stored_graph.specs.Transaction.{HasLongRecord, IsFull, IsTooLarge}

-- ---- edits whose records have spellings
edit_writable : (edit : Edit) → HasSpelling edit → IsEditWritable edit
edit_writable (Put r) fits = fitting_is_writable r fits
edit_writable (Remove r) fits = fitting_is_writable r fits

pub all_writable : (edits : List Edit) → All HasSpelling edits → All IsEditWritable edits
all_writable edits spelled = All-weaker HasSpelling IsEditWritable edit_writable edits spelled

-- ---- edits of which one is refused
-- a record is long, or isn't refused
long_or_writable : (r : Record) → IsLong r ⊎ IsWritable r
long_or_writable r =
    elim (cases_lt (length (value_of r)) (2 ^ 32)) [
      | inl short ↦ inr (short_is_writable r short)
      | inr long ↦ inl long
    ]

edit_long : (edit : Edit) → IsEditLong edit ⊎ IsEditWritable edit
edit_long (Put r) = long_or_writable r
edit_long (Remove r) = long_or_writable r

-- one of some edits is long, or none is refused
one_long : (edits : List Edit) → HasLongRecord edits ⊎ AllByRecursion IsEditWritable edits
one_long [] = inr tt
one_long (edit ∷ edits) =
    ⊎_elim (λ long. inl (edit, Contains-append_left (edit ∷ []) edits edit (Contains-push [] edit), long))
    (λ writable. ⊎_elim (λ found. inl (found.0, Contains-append_right (edit ∷ []) edits found.0 found.1, found.2)) (λ all. inr (writable, all)) (one_long edits)) (edit_long edit)

-- so a full store would be too large, or has a record too long for any
pub full_is_too_large : (graph : Held) (edits : List Edit) → IsFull graph edits → HasLongRecord edits ⊎ IsTooLarge graph edits
full_is_too_large graph edits (inl refused) =
    ⊎_elim inl (λ all. absurd (refused (All-from_recursion IsEditWritable edits all))) (one_long edits)
full_is_too_large graph edits (inr over) = inr over
