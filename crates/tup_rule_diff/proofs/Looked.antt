-- The number that a rule had, by the numbers under the path that it is looked up by.
use Rattle.std.specs.Prelude.{◌≡◌, ◌+◌, ◌<◌, ℕ, zero, suc, Bool, true, false, List, [], ◌∷◌, ◌++◌, Option, Some, length, take, slice_get, if◌then◌else◌}
use Rattle.std.proofs.Common.{refl, sym, ap, subst, ◌∙◌, get_or, arith}
use Rattle.std.proofs.lemmas.List.{append-nil}
use Rattle.std.proofs.lemmas.Option.{none-some, same_Some}
use Rattle.tup_path.specs.Name.{Names}
use Rattle.tup_path.specs.Order.{same_path}
use Rattle.tup_path.proofs.Same.{same_path-decides}
use Rattle.tup_rule.specs.declared.rule.Rule.{Rule}
use Rattle.tup_graph.specs.Graph.{GraphState}
use Rattle.tup_graph.specs.Kept.{IsRuleAt}
use Rattle.tup_graph.specs.Swap.{WasAt, IsNew}
use Rattle.tup_closure.specs.Lists.{list_of}
use Rattle.tup_closure.specs.declared.lists.Lists.{Lists}
use Rattle.tup_closure.proofs.Asked.{taken}
use Rattle.tup_rule_diff.specs.Before.{IsNumberBefore, AreNumbersBefore, AreNumbersByPath, number_at, path_of}
use Rattle.tup_rule_diff.specs.Numbered.{numbered}
use Rattle.tup_rule_diff.proofs.Numbered.{numbered_more}

-- the numbers of the rules that are looked up by a path
abbrev listed : Names → ℕ → List Rule → List ℕ
listed path n rules = numbered (number_at path) n rules

-- ---- lists of numbers by paths
pub numbers_more : (rules : List Rule) (i : ℕ) (rule : Rule) (old new : Lists ℕ) (key : Names) (number : ℕ) → i < length rules → rule ≡ get_or rules i rule → key ≡ path_of rule → number ≡ i → AreNumbersByPath (take i rules) old
    → ((q : Names) → list_of new q ≡ (if same_path q key then list_of old q ++ number ∷ [] else list_of old q)) → AreNumbersByPath (take (i + 1) rules) new
numbers_more rules i rule old new key number less here by_key counted are added path =
    added path
    ∙ (λ k. if same_path path (by_key k) then list_of old path ++ counted k ∷ [] else list_of old path)
    ∙ by (same_path path (path_of rule))
    ∙ sym (numbered_more (number_at path) rules i rule rule less here)
  where
    by : (b : Bool) → (if b then list_of old path ++ i ∷ [] else list_of old path) ≡ listed path 0 (take i rules) ++ (if b then i ∷ [] else [])
    by true = ap (λ (l : List ℕ). l ++ i ∷ []) (are path)
    by false = are path ∙ sym (append-nil (listed path 0 (take i rules)))

-- a number of a rule that is looked up by a path stands in the list of that path
pub stands_at : (n : ℕ) (path : Names) (rules : List Rule) (e : ℕ) (rule : Rule) → slice_get rules e ≡ Some rule → path ≡ path_of rule
    → (k : ℕ) × (k < length (numbered (number_at path) n rules)) × (get_or (numbered (number_at path) n rules) k 0 ≡ n + e)
stands_at n path [] e rule here is = absurd (none-some rule here)
stands_at n path (first ∷ rules) zero rule here is = by (same_path path (path_of first)) ((same_path-decides path (path_of first)).1 (is ∙ ap path_of (sym (same_Some first rule here))))
  where
    by : (b : Bool) → b ≡ true → (k : ℕ) × (k < length ((if b then n ∷ [] else []) ++ listed path (suc n) rules)) × (get_or ((if b then n ∷ [] else []) ++ listed path (suc n) rules) k 0 ≡ n + 0)
    by true same = (0, omega arith, omega arith)
    by false wrong = absurd (let no : false ≡ true = wrong in cc)
stands_at n path (first ∷ rules) (suc e) rule here is = by (same_path path (path_of first)) (stands_at (suc n) path rules e rule here is)
  where
    by : (b : Bool) → (k : ℕ) × (k < length (listed path (suc n) rules)) × (get_or (listed path (suc n) rules) k 0 ≡ suc n + e) → (k : ℕ) × (k < length ((if b then n ∷ [] else []) ++ listed path (suc n) rules)) × (get_or ((if b then n ∷ [] else []) ++ listed path (suc n) rules) k 0 ≡ n + suc e)
    by true (k, less, there) = (suc k, omega (arith, less), omega (arith, there))
    by false (k, less, there) = (k, less, omega (arith, there))

-- with one more in front, and as it is
one_on : (n e i : ℕ) (later : List ℕ) → (k : ℕ) × (k < i) × (get_or later k 0 ≡ suc n + e) → (k : ℕ) × (k < suc i) × (get_or (n ∷ later) k 0 ≡ n + suc e)
one_on n e i later (k, below, there) = (suc k, omega (arith, below), omega (arith, there))

the_same : (n e i : ℕ) (later : List ℕ) → (k : ℕ) × (k < i) × (get_or later k 0 ≡ suc n + e) → (k : ℕ) × (k < i) × (get_or later k 0 ≡ n + suc e)
the_same n e i later (k, below, there) = (k, below, omega (arith, there))

-- and smaller ones stand before it
pub stands_before : (n : ℕ) (path : Names) (rules : List Rule) (e : ℕ) (rule : Rule) → slice_get rules e ≡ Some rule → path ≡ path_of rule
    → (i : ℕ) → i < length (numbered (number_at path) n rules) → n + e < get_or (numbered (number_at path) n rules) i 0
    → (k : ℕ) × (k < i) × (get_or (numbered (number_at path) n rules) k 0 ≡ n + e)
stands_before n path [] e rule here is i within less = absurd (none-some rule here)
stands_before n path (first ∷ rules) zero rule here is i within less = by (same_path path (path_of first)) ((same_path-decides path (path_of first)).1 (is ∙ ap path_of (sym (same_Some first rule here)))) i less
  where
    by : (b : Bool) → b ≡ true → (i : ℕ) → n + 0 < get_or ((if b then n ∷ [] else []) ++ listed path (suc n) rules) i 0 → (k : ℕ) × (k < i) × (get_or ((if b then n ∷ [] else []) ++ listed path (suc n) rules) k 0 ≡ n + 0)
    by true same zero less = absurd (omega (arith, less))
    by true same (suc i) less = (0, omega arith, omega arith)
    by false wrong i less = absurd (let no : false ≡ true = wrong in cc)
stands_before n path (first ∷ rules) (suc e) rule here is i within less = by (same_path path (path_of first)) (stands_before (suc n) path rules e rule here is) i within less
  where
    by : (b : Bool) → ((i : ℕ) → i < length (listed path (suc n) rules) → suc n + e < get_or (listed path (suc n) rules) i 0 → (k : ℕ) × (k < i) × (get_or (listed path (suc n) rules) k 0 ≡ suc n + e))
        → (i : ℕ) → i < length ((if b then n ∷ [] else []) ++ listed path (suc n) rules) → n + suc e < get_or ((if b then n ∷ [] else []) ++ listed path (suc n) rules) i 0
        → (k : ℕ) × (k < i) × (get_or ((if b then n ∷ [] else []) ++ listed path (suc n) rules) k 0 ≡ n + suc e)
    by true next zero within less = absurd (omega (arith, less))
    by true next (suc i) within less = one_on n e i (listed path (suc n) rules) (next i (omega (arith, within)) (omega (arith, less)))
    by false next i within less = the_same n e i (listed path (suc n) rules) (next i within (omega (arith, less)))

module _ (g : GraphState) (rule : Rule) (numbers : List ℕ) (path : Names) (looked : path ≡ path_of rule) (are : numbers ≡ numbered (number_at path) 0 g.rules) where
  -- the first number in the list that has the rule is the first of all
  pub first_at : (i : ℕ) → i < length numbers → ((k : ℕ) → k < i → IsRuleAt g (get_or numbers k 0) rule → ⊥) → IsRuleAt g (get_or numbers i 0) rule → WasAt g rule (get_or numbers i 0)
  first_at i within none here = (here, earlier)
    where
      there : (e : ℕ) → (k : ℕ) × (k < i) × (get_or (numbered (number_at path) 0 g.rules) k 0 ≡ 0 + e) → IsRuleAt g e rule → ⊥
      there e (k, below, is) at = none k below (subst (λ (n : ℕ). IsRuleAt g n rule) (let same : e ≡ get_or numbers k 0 = sym (ap (λ (l : List ℕ). get_or l k 0) are ∙ is ∙ (let z : 0 + e ≡ e = omega arith in z)) in same) at)

      earlier : (e : ℕ) → e < get_or numbers i 0 → IsRuleAt g e rule → ⊥
      earlier e less at =
          there e (stands_before 0 path g.rules e rule at looked i (subst (λ (l : List ℕ). i < length l) are within)
          (let less_there : e < get_or (numbered (number_at path) 0 g.rules) i 0 = subst (λ (l : List ℕ). e < get_or l i 0) are less in omega (arith, less_there))) at

  -- where none in the list has the rule none of all has it
  pub none_at : ((k : ℕ) → k < length numbers → IsRuleAt g (get_or numbers k 0) rule → ⊥) → IsNew g rule
  none_at none e at = there (stands_at 0 path g.rules e rule at looked)
    where
      there : (k : ℕ) × (k < length (numbered (number_at path) 0 g.rules)) × (get_or (numbered (number_at path) 0 g.rules) k 0 ≡ 0 + e) → ⊥
      there (k, within, is) = none k (subst (λ (l : List ℕ). k < length l) (sym are) within)
          (subst (λ (n : ℕ). IsRuleAt g n rule) (let same : e ≡ get_or numbers k 0 = sym (ap (λ (l : List ℕ). get_or l k 0) are ∙ is ∙ (let z : 0 + e ≡ e = omega arith in z)) in same) at)

-- ---- one number for each rule
pub befores_push : (g : GraphState) (rules : List Rule) (befores : List (Option ℕ)) (rule : Rule) (before : Option ℕ) → AreNumbersBefore g rules befores → IsNumberBefore g rule before
    → AreNumbersBefore g (rules ++ rule ∷ []) (befores ++ before ∷ [])
befores_push g [] [] rule before are is = (is, tt)
befores_push g (first ∷ rules) (one ∷ befores) rule before are is = (are.0, befores_push g rules befores rule before are.1 is)
befores_push g [] (one ∷ befores) rule before are is = absurd are
befores_push g (first ∷ rules) [] rule before are is = absurd are

pub befores_more : (g : GraphState) (rules : List Rule) (i : ℕ) (rule : Rule) (befores new : List (Option ℕ)) (before : Option ℕ) → i < length rules → rule ≡ get_or rules i rule → AreNumbersBefore g (take i rules) befores
    → IsNumberBefore g rule before → new ≡ befores ++ before ∷ [] → AreNumbersBefore g (take (i + 1) rules) new
befores_more g rules i rule befores new before less here are is added =
    subst (λ (x : List Rule × List (Option ℕ)). AreNumbersBefore g x.0 x.1) (λ k. (sym (taken rules i rule rule less here) k, sym added k)) (befores_push g (take i rules) befores rule before are is)

-- the number of a rule that stands there
pub before_of : (g : GraphState) (rules : List Rule) (befores : List (Option ℕ)) (i : ℕ) (rule : Rule) → AreNumbersBefore g rules befores → slice_get rules i ≡ Some rule → (before : Option ℕ) × (slice_get befores i ≡ Some before) × IsNumberBefore g rule before
before_of g [] befores i rule are here = absurd (none-some rule here)
before_of g (first ∷ rules) [] i rule are here = absurd are
before_of g (first ∷ rules) (one ∷ befores) zero rule are here = (one, refl, subst (λ (r : Rule). IsNumberBefore g r one) (same_Some first rule here) are.0)
before_of g (first ∷ rules) (one ∷ befores) (suc i) rule are here = before_of g rules befores i rule are.1 here

-- the rule of a number that stands there
pub rule_of : (g : GraphState) (rules : List Rule) (befores : List (Option ℕ)) (i : ℕ) (before : Option ℕ) → AreNumbersBefore g rules befores → slice_get befores i ≡ Some before → (rule : Rule) × (slice_get rules i ≡ Some rule) × IsNumberBefore g rule before
rule_of g rules [] i before are here = absurd (none-some before here)
rule_of g [] (one ∷ befores) i before are here = absurd are
rule_of g (first ∷ rules) (one ∷ befores) zero before are here = (first, refl, subst (IsNumberBefore g first) (same_Some one before here) are.0)
rule_of g (first ∷ rules) (one ∷ befores) (suc i) before are here = rule_of g rules befores i before are.1 here
