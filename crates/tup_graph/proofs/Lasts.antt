-- A loop over edits that keeps the last change of each key.
use Rattle.std.proofs.Common.{◌≡◌, ℕ, ◌+◌, ◌<◌, List, [], ◌∷◌, ◌++◌, cond, Some, map, take, length, get_or, All, sym, ap, subst, ◌∙◌}
use Rattle.std.specs.FinMap as finite
use Rattle.std.specs.List.Sorted.{IsStrictlySortedBy}
use Rattle.std.specs.Map.{keys_of, lookup}
use Rattle.std.specs.BTreeMap.{is_at}
use Rattle.std.specs.Cmp.Lexicographic.{nat_list_cmp_total}
use Rattle.std.proofs.lemmas.List.{take_more, map-append}
use Rattle.std.proofs.lemmas.List.Elements.{All-more}
use Rattle.std.proofs.lemmas.List.Sums.{fold_push}
use Rattle.tup_path.specs.Order.{by_bytes}
use Rattle.tup_path.proofs.Maps.{from_entries-set, entries-of_sorted}
use Rattle.tup_table.specs.declared.change.Change.{Change}
use Rattle.tup_table.specs.Entries.{key_of}
use Rattle.tup_graph.proofs.Maps.{by_bytes-antisymmetric}
use Rattle.tup_graph.specs.declared.edit.Edit.{Edit}
use Rattle.tup_graph.specs.Changes.{last_changes}
use Rattle.tup_graph.specs.Edits.{change_of, HasSpelling}

abbrev one_later : finite.FinMap by_bytes Change → Change → finite.FinMap by_bytes Change
one_later last change = finite.insert last (key_of change) change

-- entries have the last change of each key of some edits, all of which have spellings
pub record AreLast (edits : List Edit) (entries : List (List ℕ × Change)) : Type 0 where
  pub sorted : IsStrictlySortedBy by_bytes (keys_of entries)
  pub last : finite.from_entries entries ≡ last_changes (map change_of edits)
  pub spelled : All HasSpelling edits

module _ (edits : List Edit) (i : ℕ) (e : Edit) (less : i < length edits) (here : e ≡ get_or edits i e) where
  grown : take (i + 1) edits ≡ take i edits ++ e ∷ []
  grown = take_more edits i e less ∙ ap (λ (x : Edit). take i edits ++ x ∷ []) (sym here)

  pub last_more : (entries fs : List (List ℕ × Change)) (key : List ℕ) (change : Change) → AreLast (take i edits) entries → key ≡ key_of change → change ≡ change_of e → HasSpelling e
      → ((q : List ℕ) → lookup (is_at (by_bytes q)) fs ≡ cond (is_at (by_bytes key) q) (Some change) (lookup (is_at (by_bytes q)) entries)) → IsStrictlySortedBy by_bytes (keys_of fs) → AreLast (take (i + 1) edits) fs
  last_more entries fs key change so_far keyed is spells set up = record {
    sorted = up;
    last =
        from_entries-set nat_list_cmp_total by_bytes-antisymmetric entries fs key change set
        ∙ ap (λ (k : List ℕ). finite.insert (finite.from_entries entries) k change) keyed
        ∙ ap (λ (m : finite.FinMap by_bytes Change). finite.insert m (key_of change) change) so_far.last
        ∙ ap (λ (c : Change). finite.insert (last_changes (map change_of (take i edits))) (key_of c) c) is
        ∙ sym (fold_push one_later finite.empty (map change_of (take i edits)) (change_of e))
        ∙ ap last_changes (sym (map-append change_of (take i edits) (e ∷ [])) ∙ ap (map change_of) (sym grown));
    spelled = All-more HasSpelling edits i e less so_far.spelled (subst HasSpelling here spells);
  }

pub last_all : (edits so_far : List Edit) (entries : List (List ℕ × Change)) → so_far ≡ edits → AreLast so_far entries
    → (entries ≡ finite.entries (last_changes (map change_of edits))) × All HasSpelling edits
last_all edits so_far entries same are = (
  sym (entries-of_sorted nat_list_cmp_total entries are.sorted) ∙ ap finite.entries are.last ∙ ap (λ (es : List Edit). finite.entries (last_changes (map change_of es))) same,
  subst (All HasSpelling) same are.spelled,
)
