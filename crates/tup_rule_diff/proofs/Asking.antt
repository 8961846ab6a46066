-- The outputs of new rules, and records of which none asks one of them.
use Rattle.std.specs.Prelude.{◌≡◌, ◌⊎◌, ◌+◌, ◌<◌, ℕ, Bool, true, false, List, ◌∷◌, [], ◌++◌, Option, Contains, length, slice_get, Some}
use Rattle.std.proofs.Common.{refl, sym, subst, ◌∙◌, inl, inr, take, get_or, arith}
use Rattle.std.specs.BTreeSet.{BTreeSet, contains}
use Rattle.std.specs.Cmp.{nat_cmp_total}
use Rattle.std.specs.FinMap as finite
use Rattle.std.specs.FinMap.{nat_cmp-IsAntisymmetric}
use Rattle.std.specs.List.{list_any}
use Rattle.std.specs.Ordering.{nat_cmp}
use Rattle.std.proofs.lemmas.Bool.{cases_eq, true≢false}
use Rattle.std.proofs.lemmas.List.Elements.{Contains-push, Contains-push_cases, Contains-append_left}
use Rattle.std.proofs.lemmas.List.Folds.{list_any-from_Any}
use Rattle.std.proofs.lemmas.Option.{none-some, same_Some, slice_get_read}
use Rattle.tup_path.specs.Name.{Names}
use Rattle.tup_path.specs.Order.{by_names}
use Rattle.tup_rule.specs.declared.rule.Rule.{Rule}
use Rattle.tup_record.specs.declared.run.RunRecord.{RunRecord}
use Rattle.tup_graph.specs.Graph.{GraphState}
use Rattle.tup_closure.specs.Grows.{Grows}
use Rattle.tup_closure.proofs.Asked.{taken}
use Rattle.tup_closure.proofs.Growing.{grows_as, grows_on}
use Rattle.tup_closure.proofs.Members.{number-decides}
use Rattle.tup_scan_diff.specs.Sets.{Has}
use Rattle.tup_rule_diff.specs.Edits.{led_by}
use Rattle.tup_rule_diff.specs.Running.{HasNewOutputs, IsNewWith, NoneReadsNew, asks_in, run_asks_in}
use Rattle.tup_rule_diff.proofs.Leaving.{led_graph, led_is}
use Rattle.tup_rule_diff.proofs.Puts.{put_there}

-- ---- the first of some paths, and one more
pub path_more : (paths : List Names) (i : ℕ) (path copy : Names) (a b c : BTreeSet Names) → i < length paths → path ≡ get_or paths i path → copy ≡ path
    → Grows (Contains (take i paths)) (Has by_names a) (Has by_names b) → Grows (λ p. p ≡ copy) (Has by_names b) (Has by_names c) → Grows (Contains (take (i + 1) paths)) (Has by_names a) (Has by_names c)
path_more paths i path copy a b c less is same one two = grows_as to from (grows_on one two)
  where
    grown : take (i + 1) paths ≡ take i paths ++ path ∷ []
    grown = taken paths i path path less is

    to : (p : Names) → Contains (take i paths) p ⊎ (p ≡ copy) → Contains (take (i + 1) paths) p
    to p (inl before) = subst (λ (l : List Names). Contains l p) (sym grown) (Contains-append_left (take i paths) (path ∷ []) p before)
    to p (inr last) = subst (λ (l : List Names). Contains l p) (sym grown) (subst (Contains (take i paths ++ path ∷ [])) (sym (last ∙ same)) (Contains-push (take i paths) path))

    from : (p : Names) → Contains (take (i + 1) paths) p → Contains (take i paths) p ⊎ (p ≡ copy)
    from p h = elim (Contains-push_cases (take i paths) path p (subst (λ (l : List Names). Contains l p) grown h)) [
      | inl before ↦ inl before
      | inr last ↦ inr (sym last ∙ sym same)
    ]

-- ---- the outputs of the first rules, and of one more
abbrev pub HasFirst : List Rule → List (Option ℕ) → ℕ → BTreeSet Names → Type 0
HasFirst rules befores i set = (at : ℕ) (rule : Rule) (path : Names) → at < i → slice_get rules at ≡ Some rule → IsNewWith befores at rule path → Has by_names set path

pub rule_more : (rules : List Rule) (befores : List (Option ℕ)) (i : ℕ) (rule : Rule) (b c : BTreeSet Names) → i < length rules → rule ≡ get_or rules i rule → HasFirst rules befores i b
    → Grows (IsNewWith befores i rule) (Has by_names b) (Has by_names c) → HasFirst rules befores (i + 1) c
rule_more rules befores i rule b c less is has grows at other path below there new = elim (cases_eq at i) [
  | inl same ↦ grows.all path (subst (λ (x : ℕ × Rule). IsNewWith befores x.0 x.1 path)
      (λ k. (same k, same_Some other rule (sym (subst (λ (n : ℕ). slice_get rules n ≡ Some other) same there) ∙ slice_get_read rules (length rules) i rule refl less is) k)) new)
  | inr apart ↦ grows.kept path (has at other path (omega (arith, below)) there new)
]

-- ---- no record asks one of them
any_of : {X : Type 0} (f : X → Bool) (xs : List X) (x : X) → Contains xs x → f x ≡ true → list_any f xs ≡ true
any_of f xs x h is = list_any-from_Any f xs (h.0, x, h.1, h.2, is)

module _ (rules : List Rule) (runs : List (ℕ × RunRecord)) (befores : List (Option ℕ)) (set : BTreeSet Names) (has : HasNewOutputs rules befores set) (none : list_any (run_asks_in set) runs ≡ false) where
  never : NoneReadsNew (led_graph rules runs) befores
  never number (at, rule, here, (new, (path, inside, (run, given, ran, asked)))) = by (put_there nat_cmp_total nat_cmp-IsAntisymmetric number-decides runs finite.empty number run ran)
    where
      asks : asks_in set run ≡ true
      asks = any_of (λ ask. contains by_names set ask.0) run.asks (path, given) asked (has at rule path here (new, inside))

      by : Contains runs (number, run) ⊎ (finite.get {R = nat_cmp} finite.empty number ≡ Some run) → ⊥
      by (inl there) = true≢false (sym (any_of (run_asks_in set) runs (number, run) there asks) ∙ none)
      by (inr nothing) = none-some run (sym (finite.get-empty nat_cmp number) ∙ nothing)

  pub none_reads : NoneReadsNew (led_by rules runs) befores
  none_reads = subst (λ (l : GraphState). NoneReadsNew l befores) (sym (led_is rules runs)) never
