-- The rules that name an output of some rules.
use Rattle.std.proofs.Common.{◌≡◌, ◌⊎◌, ℕ, ◌+◌, ◌<◌, List, [], ◌∷◌, Option, length, get_or, take, sym, subst, ◌∙◌, inl, inr, arith}
use Rattle.std.specs.Prelude.{◌==◌, Contains, option_map, unwrap_or}
use Rattle.std.specs.BTreeSet.{BTreeSet}
use Rattle.std.specs.List.Sorted.{IsStrictlySortedBy}
use Rattle.std.specs.Ordering.{nat_cmp}
use Rattle.std.proofs.lemmas.Bool.{eqb-true, true≢false}
use Rattle.std.proofs.lemmas.List.Elements.{Contains-append_left, Contains-push, Contains-push_cases}
use Rattle.std.proofs.lemmas.List.Folds.{Any-from_list_any}
use Rattle.std.proofs.lemmas.Option.{slice_get_within}
use Rattle.tup_path.specs.Name.{Names}
use Rattle.tup_rule.specs.declared.rule.Rule.{Rule}
use Rattle.tup_rule.proofs.Laws.{among-decides}
use Rattle.tup_graph.specs.Graph.{GraphState, outputs_of}
use Rattle.tup_core.specs.Sound.{AreNamersOf, IsMadeBy}
use Rattle.tup_closure.specs.Grows.{Grows}
use Rattle.tup_closure.specs.Steps.{IsListOf}
use Rattle.tup_closure.proofs.Asked.{taken}
use Rattle.tup_closure.proofs.Growing.{grows_as, grows_on}
use Rattle.tup_closure.proofs.Members.{contained, in_empty, in_set, number-decides}
use Rattle.tup_partial.specs.Near.{IsIn, NamesOutputOf}

-- ---- what has to do with one of some things

module _ {X : Type 0} (Has : X → ℕ → Type 0) where
  abbrev pub OneOf : List X → ℕ → Type 0
  OneOf xs n = (x : X) × Contains xs x × Has x n

  pub one_of_none : (n : ℕ) → OneOf [] n → ⊥
  one_of_none n (x, h, has) = let less = h.1 in omega arith

  module _ (xs : List X) (i : ℕ) (x d : X) (less : i < length xs) (is : x ≡ get_or xs i d) where
    -- with one of the first of them, or with the next one
    one_more : (n : ℕ) → OneOf (take i xs) n ⊎ Has x n → OneOf (take (i + 1) xs) n
    one_more n (inl (y, h, has)) = (y, subst (λ (l : List X). Contains l y) (sym (taken xs i x d less is)) (Contains-append_left (take i xs) (x ∷ []) y h), has)
    one_more n (inr has) = (x, subst (λ (l : List X). Contains l x) (sym (taken xs i x d less is)) (Contains-push (take i xs) x), has)

    one_less : (n : ℕ) → OneOf (take (i + 1) xs) n → OneOf (take i xs) n ⊎ Has x n
    one_less n (y, h, has) = elim (Contains-push_cases (take i xs) x y (subst (λ (l : List X). Contains l y) (taken xs i x d less is) h)) [
      | inl before ↦ inl (y, before, has)
      | inr last ↦ inr (subst (λ (z : X). Has z n) (sym last) has)
    ]

    -- a set that grows by what has to do with the first of them, and then with the next one
    pub grows_more : {A B C : ℕ → Type 0} → Grows (OneOf (take i xs)) A B → Grows (Has x) B C → Grows (OneOf (take (i + 1) xs)) A C
    grows_more before one = grows_as one_more one_less (grows_on before one)

-- ---- numbers in a set

-- they are just those of a list, or of one of its numbers
pub grows_listed : {A B : ℕ → Type 0} (xs : List ℕ) → Grows (OneOf (λ (m n : ℕ). n ≡ m) xs) A B → Grows (Contains xs) A B
grows_listed xs = grows_as (λ n (m, h, same). subst (Contains xs) (sym same) h) (λ n h. (n, h, (λ i. n)))

-- an empty set has none
pub none_in_empty : (set : BTreeSet ℕ) (n : ℕ) → set.keys ≡ [] → IsIn set n → ⊥
none_in_empty set n empty is = true≢false (sym is ∙ in_empty nat_cmp number-decides set n empty)

-- what a set that was empty has grown by is listed where its numbers are
pub grown_list : {These : ℕ → Type 0} (set : BTreeSet ℕ) (numbers : List ℕ) → numbers ≡ set.keys → IsStrictlySortedBy nat_cmp numbers → Grows These (λ _. ⊥) (IsIn set) → IsListOf These numbers
grown_list {These} set numbers same up grows = record {
  ascending = up;
  members = λ n. (
    λ h. by n (grows.only n (in_set nat_cmp number-decides set n (subst (λ (l : List ℕ). Contains l n) same h))),
    λ these. subst (λ (l : List ℕ). Contains l n) (sym same) (contained nat_cmp number-decides set n (grows.all n these)),
  );
}
  where
    by : (n : ℕ) → ⊥ ⊎ These n → These n
    by n (inl never) = absurd never
    by n (inr these) = these

-- ---- the rules near some rules

module _ (g : GraphState) (numbers near : List ℕ) where
  abbrev outputs : Option Rule → List Names
  outputs found = unwrap_or (option_map (λ (rule : Rule). rule.outputs) found) []

  -- all that do are near, where they are listed
  pub few_near : IsListOf (NamesOutputOf g numbers) near → AreNamersOf g.rules (IsMadeBy g.rules numbers) near
  few_near list = record {
    each = λ at rule path made here named. (list.members at).1 (made.number, its_number made, (path, its_output made, (rule, here, named)));
    range = λ at inside. within at ((list.members at).0 inside);
    ascending = list.ascending;
  }
    where
      its_number : {path : Names} (made : IsMadeBy g.rules numbers path) → Contains numbers made.number
      its_number made =
          let found = Any-from_list_any (λ (other : ℕ). made.number == other) numbers made.listed in
          subst (Contains numbers) (sym (eqb-true made.number found.1 found.4)) (found.0, found.2, found.3)

      its_output : {path : Names} (made : IsMadeBy g.rules numbers path) → Contains (outputs_of g made.number) path
      its_output {path} made = subst (λ (found : Option Rule). Contains (outputs found) path) (sym made.here) ((among-decides path made.rule.outputs).0 made.written)

      within : (at : ℕ) → NamesOutputOf g numbers at → at < length g.rules
      within at (maker, inside, (path, made, (rule, here, named))) = slice_get_within g.rules at rule here

  -- all rules are near
  pub all_near : IsListOf (λ number. number < length g.rules) near → AreNamersOf g.rules (IsMadeBy g.rules numbers) near
  all_near list = record {
    each = λ at rule path made here named. (list.members at).1 (slice_get_within g.rules at rule here);
    range = λ at. (list.members at).0;
    ascending = list.ascending;
  }
