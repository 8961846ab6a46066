-- The folders whose readings asked a question, found in one pass over what readings left.
use Rattle.std.specs.Prelude.{◌≡◌, ◌⊎◌, ◌↔◌, Bool, true, false, List, [], ◌∷◌, ◌++◌, Contains, Decides}
use Rattle.std.proofs.Common.{refl, sym, ap, subst, ◌∙◌, inl, inr}
use Rattle.std.specs.Cmp.Lexicographic.{bytes_decides}
use Rattle.std.specs.FinMap as finite
use Rattle.std.specs.FinMap.Entries.{below_all}
use Rattle.std.specs.List.{AllByRecursion}
use Rattle.std.specs.List.Sorted.{IsStrictlySortedBy}
use Rattle.std.specs.Ordering.{is_lt}
use Rattle.std.specs.declared.cmp.Ordering.{Ordering}
use Rattle.std.specs.declared.cmp.Ordering.TheVariants.{Less}
use Rattle.std.proofs.lemmas.Bool.{and_parts, false≢true}
use Rattle.std.proofs.lemmas.List.{append-nil, append_assoc}
use Rattle.std.proofs.lemmas.List.Folds.{Any-from_list_any, list_any-from_Any}
use Rattle.tup_path.specs.Name.{Names}
use Rattle.tup_path.specs.Order.{by_names, by_names-antisymmetric, by_names-total}
use Rattle.tup_path.proofs.Same.{same_path-decides}
use Rattle.tup_rule.specs.declared.question.Noted.{Noted}
use Rattle.tup_rule.specs.declared.question.Question.{Question}
use Rattle.tup_rule.specs.declared.question.Question.TheVariants as asks
use Rattle.tup_rule.specs.declared.question.Reading.{Reading}
use Rattle.tup_graph.specs.Graph.{GraphState}
use Rattle.tup_readers.specs.Askers.{has_asked, key_if, same_question, those_in}
use Rattle.tup_readers.specs.Index.{HasQuestioned}
use Rattle.tup_readers.proofs.Entries.{behind_front, entry_found, found_entry, front_or_behind, holds, in_front, less_is, none_in}

module _ {K : Type 0} (R : K → K → Ordering) where
  -- ---- a key alone, or none, before others

  first_or_later : (b : Bool) (n : K) (rest : List K) (x : K) → Contains (key_if b n ++ rest) x → ((b ≡ true) × (n ≡ x)) ⊎ Contains rest x
  first_or_later true n rest x h = elim (front_or_behind n x rest h) [ inl same ↦ inl (refl, same) | inr later ↦ inr later ]
  first_or_later false n rest x h = inr h

  first : (b : Bool) (n : K) (rest : List K) → b ≡ true → Contains (key_if b n ++ rest) n
  first true n rest e = in_front n rest
  first false n rest e = absurd (false≢true e)

  later : (b : Bool) (n : K) (rest : List K) (x : K) → Contains rest x → Contains (key_if b n ++ rest) x
  later true n rest x h = behind_front n x rest h
  later false n rest x h = h

  all_with : (b : Bool) (k n : K) (rest : List K) → R k n ≡ Less → AllByRecursion (λ y. R k y ≡ Less) rest → AllByRecursion (λ y. R k y ≡ Less) (key_if b n ++ rest)
  all_with true k n rest less all = (less, all)
  all_with false k n rest less all = all

  up_with : (b : Bool) (n : K) (rest : List K) → AllByRecursion (λ y. R n y ≡ Less) rest → IsStrictlySortedBy R rest → IsStrictlySortedBy R (key_if b n ++ rest)
  unfolding IsStrictlySortedBy
  up_with true n rest all up = (all, up)
  up_with false n rest all up = up

  module _ {X : Type 0} (test : X → Bool) where
    -- with one entry more
    pub those_more : (entries : List (K × X)) (entry : K × X) → those_in test (entries ++ entry ∷ []) ≡ those_in test entries ++ key_if (test entry.1) entry.0
    those_more [] entry = append-nil (key_if (test entry.1) entry.0)
    those_more (head ∷ entries) entry =
        ap (λ (l : List K). key_if (test head.1) head.0 ++ l) (those_more entries entry)
        ∙ sym (append_assoc (key_if (test head.1) head.0) (those_in test entries) (key_if (test entry.1) entry.0))

    in_those : (entries : List (K × X)) (key : K) → Contains (those_in test entries) key → (one : X) × Contains entries (key, one) × (test one ≡ true)
    in_those [] key h = absurd (none_in key h)
    in_those (entry ∷ entries) key h = elim (first_or_later (test entry.1) entry.0 (those_in test entries) key h) [
      | inl is ↦ (entry.1, subst (λ (n : K). Contains (entry ∷ entries) (n, entry.1)) is.1 (in_front entry entries), is.0)
      | inr behind ↦ let (one, there, so) = in_those entries key behind in (one, behind_front entry (key, one) entries there, so)
    ]

    those_hold : (entries : List (K × X)) (key : K) (one : X) → Contains entries (key, one) → test one ≡ true → Contains (those_in test entries) key
    those_hold [] key one h so = absurd (none_in (key, one) h)
    those_hold (entry ∷ entries) key one h so = elim (front_or_behind entry (key, one) entries h) [
      | inl same ↦
          subst (λ (n : K). Contains (those_in test (entry ∷ entries)) n) (ap (λ (x : K × X). x.0) same)
          (first (test entry.1) entry.0 (those_in test entries) (ap (λ (x : K × X). test x.1) same ∙ so))
      | inr behind ↦ later (test entry.1) entry.0 (those_in test entries) key (those_hold entries key one behind so)
    ]

    all_above : (k : K) (entries : List (K × X)) → below_all R k entries ≡ true → AllByRecursion (λ y. R k y ≡ Less) (those_in test entries)
    all_above k [] below = tt
    all_above k (entry ∷ entries) below =
        let parts = and_parts (is_lt (R k entry.0)) (below_all R k entries) below in
        all_with (test entry.1) k entry.0 (those_in test entries) (less_is (R k entry.0) parts.0) (all_above k entries parts.1)

    those_ascend : (entries : List (K × X)) → finite.is_sorted R entries ≡ true → IsStrictlySortedBy R (those_in test entries)
    unfolding IsStrictlySortedBy
    those_ascend [] up = tt
    those_ascend (entry ∷ entries) up =
        let parts = and_parts (below_all R entry.0 entries) (finite.is_sorted R entries) up in
        up_with (test entry.1) entry.0 (those_in test entries) (all_above entry.0 entries parts.0) (those_ascend entries parts.1)

-- ---- questions

-- the test of two questions says whether they are the same
question_decides : (one other : Question) → Decides (same_question one other) (one ≡ other)
question_decides (asks.Content x) (asks.Content y) = (λ e. ap asks.Content ((same_path-decides x y).0 e), λ e. (same_path-decides x y).1 (let same : x ≡ y = cc in same))
question_decides (asks.Content x) (asks.Config y) = (λ e. cc, λ e. cc)
question_decides (asks.Content x) (asks.Names y) = (λ e. cc, λ e. cc)
question_decides (asks.Content x) (asks.Kind y) = (λ e. cc, λ e. cc)
question_decides (asks.Config x) (asks.Content y) = (λ e. cc, λ e. cc)
question_decides (asks.Config x) (asks.Config y) = (λ e. ap asks.Config ((bytes_decides x y).0 e), λ e. (bytes_decides x y).1 (let same : x ≡ y = cc in same))
question_decides (asks.Config x) (asks.Names y) = (λ e. cc, λ e. cc)
question_decides (asks.Config x) (asks.Kind y) = (λ e. cc, λ e. cc)
question_decides (asks.Names x) (asks.Content y) = (λ e. cc, λ e. cc)
question_decides (asks.Names x) (asks.Config y) = (λ e. cc, λ e. cc)
question_decides (asks.Names x) (asks.Names y) = (λ e. ap asks.Names ((same_path-decides x y).0 e), λ e. (same_path-decides x y).1 (let same : x ≡ y = cc in same))
question_decides (asks.Names x) (asks.Kind y) = (λ e. cc, λ e. cc)
question_decides (asks.Kind x) (asks.Content y) = (λ e. cc, λ e. cc)
question_decides (asks.Kind x) (asks.Config y) = (λ e. cc, λ e. cc)
question_decides (asks.Kind x) (asks.Names y) = (λ e. cc, λ e. cc)
question_decides (asks.Kind x) (asks.Kind y) = (λ e. ap asks.Kind ((same_path-decides x y).0 e), λ e. (same_path-decides x y).1 (let same : x ≡ y = cc in same))

module _ (question : Question) (reading : Reading) where
  told : has_asked question reading ≡ true → (noted : Noted) × Contains reading.asked (question, noted)
  told e =
      let found = Any-from_list_any (λ (one : Question × Noted). same_question one.0 question) reading.asked e in
      let same : found.1.0 ≡ question = (question_decides found.1.0 question).0 found.4 in
      (found.1.1, subst (λ (q : Question). Contains reading.asked (q, found.1.1)) same (found.0, found.2, found.3))

  tells : (noted : Noted) → Contains reading.asked (question, noted) → has_asked question reading ≡ true
  tells noted h = list_any-from_Any (λ (one : Question × Noted). same_question one.0 question) reading.asked (h.0, (question, noted), h.1, h.2, (question_decides question question).1 refl)

module _ (g : GraphState) (question : Question) (dirs : List Names) (are : dirs ≡ those_in (has_asked question) (finite.entries g.readings)) where
  -- those that are found asked it
  pub askers_found : (dir : Names) → Contains dirs dir ↔ HasQuestioned g dir question
  askers_found dir = (to, from)
    where
      to : Contains dirs dir → HasQuestioned g dir question
      to h =
          let (reading, there, so) = in_those by_names (has_asked question) (finite.entries g.readings) dir (subst (λ (l : List Names). Contains l dir) are h) in
          let (noted, in_it) = told question reading so in
          (reading, noted, found_entry by_names-total by_names-antisymmetric g.readings dir reading there, in_it)

      from : HasQuestioned g dir question → Contains dirs dir
      from (reading, noted, here, in_it) =
          subst (λ (l : List Names). Contains l dir) (sym are)
          (those_hold by_names (has_asked question) (finite.entries g.readings) dir reading (entry_found by_names-total by_names-antisymmetric g.readings dir reading here) (tells question reading noted in_it))

  pub askers_ascend : IsStrictlySortedBy by_names dirs
  askers_ascend = subst (IsStrictlySortedBy by_names) (sym are) (those_ascend by_names (has_asked question) (finite.entries g.readings) (holds (finite.is_sorted by_names (finite.entries g.readings)) (finite.entries_sorted g.readings)))
