-- The rules whose records ask a path, as a list.
use Rattle.std.specs.Prelude.{◌≡◌, ◌↔◌, ℕ, Bool, true, List, [], ◌∷◌, Option, None, Some, Contains, filter, map, length, is_some}
use Rattle.std.proofs.Common.{refl, sym, ap, subst, ◌∙◌, inl, inr}
use Rattle.std.specs.FinMap as finite
use Rattle.std.specs.FinMap.{FinMap}
use Rattle.std.specs.FinMap.Entries.{below_all}
use Rattle.std.specs.List.{AllByRecursion}
use Rattle.std.specs.List.Sorted.{IsStrictlySortedBy}
use Rattle.std.specs.Ordering.{nat_cmp, is_lt}
use Rattle.std.specs.declared.cmp.Ordering.TheVariants.{Less}
use Rattle.std.proofs.lemmas.Bool.{and_parts}
use Rattle.std.proofs.lemmas.List.Kept.{IsStrictlySortedBy-filter}
use Rattle.tup_path.specs.Name.{Names}
use Rattle.tup_rule.specs.Rule.{among}
use Rattle.tup_rule.proofs.Laws.{among-decides}
use Rattle.tup_record.specs.declared.run.RunRecord.{RunRecord}
use Rattle.tup_graph.specs.Above.{HasAsked}
use Rattle.tup_graph.specs.Graph.{GraphState}
use Rattle.tup_readers.proofs.Entries.{in_front, behind_front, front_or_behind, none_in, holds, less_is}
use Rattle.tup_readers.proofs.Filtering.{filter_in, in_filter}
use Rattle.tup_closure.specs.Steps.{IsListOf, asked_in, has_asked, readers_of}
use Rattle.tup_closure.proofs.Counting.{as_long}
use Rattle.tup_closure.proofs.Members.{listed, number-decides}

-- ---- the keys of a map are in order

module _ {X : Type 0} where
  all_later : (k : ℕ) (es : List (ℕ × X)) → below_all nat_cmp k es ≡ true → AllByRecursion (λ y. nat_cmp k y ≡ Less) (map (λ e. e.0) es)
  all_later k [] below = tt
  all_later k (e ∷ es) below =
      let parts = and_parts (is_lt (nat_cmp k e.0)) (below_all nat_cmp k es) below in
      (less_is (nat_cmp k e.0) parts.0, all_later k es parts.1)

  ascend : (es : List (ℕ × X)) → finite.is_sorted nat_cmp es ≡ true → IsStrictlySortedBy nat_cmp (map (λ e. e.0) es)
  unfolding IsStrictlySortedBy
  ascend [] up = tt
  ascend (e ∷ es) up =
      let parts = and_parts (below_all nat_cmp e.0 es) (finite.is_sorted nat_cmp es) up in
      (all_later e.0 es parts.0, ascend es parts.1)

  -- the keys of a map ascend
  pub keys_ascend : (m : FinMap nat_cmp X) → IsStrictlySortedBy nat_cmp (finite.keys m)
  keys_ascend m = ascend (finite.entries m) (holds (finite.is_sorted nat_cmp (finite.entries m)) (finite.entries_sorted m))

-- ---- the paths that a record asks

module _ (path : Names) where
  asked : {S : Type 0} (asks : List (Names × S)) (given : S) → Contains asks (path, given) → Contains (map (λ ask. ask.0) asks) path
  asked [] given h = absurd (none_in (path, given) h)
  asked (ask ∷ asks) given h = elim (front_or_behind ask (path, given) asks h) [
    | inl same ↦ subst (Contains (map (λ ask. ask.0) (ask ∷ asks))) (λ i. (same i).0) (in_front ask.0 (map (λ ask. ask.0) asks))
    | inr later ↦ behind_front ask.0 path (map (λ ask. ask.0) asks) (asked asks given later)
  ]

  told : {S : Type 0} (asks : List (Names × S)) → Contains (map (λ ask. ask.0) asks) path → (given : S) × Contains asks (path, given)
  told [] h = absurd (none_in path h)
  told (ask ∷ asks) h = elim (front_or_behind ask.0 path (map (λ ask. ask.0) asks) h) [
    | inl same ↦ (ask.1, subst (Contains (ask ∷ asks)) (λ i. (same i, ask.1)) (in_front ask asks))
    | inr later ↦ let (given, more) = told asks later in (given, behind_front ask (path, given) asks more)
  ]

  module _ (g : GraphState) where
    asks_it : (number : ℕ) → HasAsked g number path → has_asked g path number ≡ true
    asks_it number (run, given, here, h) =
        ap (λ (found : Option RunRecord). among path (asked_in found)) here ∙ (among-decides path (asked_in (Some run))).1 (asked run.asks given h)

    asked_by : (number : ℕ) (found : Option RunRecord) → finite.get g.runs number ≡ found → among path (asked_in found) ≡ true → HasAsked g number path
    asked_by number None here e = absurd (none_in path ((among-decides path []).0 e))
    asked_by number (Some run) here e = let (given, h) = told run.asks ((among-decides path (asked_in (Some run))).0 e) in (run, given, here, h)

    recorded : (number : ℕ) → HasAsked g number path → Contains (finite.keys g.runs) number
    recorded number (run, given, here, h) = listed nat_cmp number-decides (finite.keys g.runs) number (sym (finite.contains_key-keys g.runs number) ∙ ap is_some here)

    -- the list of those who asked a path is one
    pub are_readers : IsListOf (λ number. HasAsked g number path) (readers_of g path)
    are_readers = record {
      ascending = IsStrictlySortedBy-filter nat_cmp (has_asked g path) (finite.keys g.runs) (keys_ascend g.runs);
      members = λ number. (
        λ h. asked_by number (finite.get g.runs number) refl (filter_in (has_asked g path) (finite.keys g.runs) number h).1,
        λ reads. in_filter (has_asked g path) (finite.keys g.runs) number (recorded number reads) (asks_it number reads),
      );
    }

    -- each list of them is as long
    pub as_many : (numbers : List ℕ) → IsStrictlySortedBy nat_cmp numbers → ((number : ℕ) → Contains numbers number ↔ HasAsked g number path) → length numbers ≡ length (readers_of g path)
    as_many numbers up are = as_long numbers (readers_of g path) (record { ascending = up; members = are }) are_readers
