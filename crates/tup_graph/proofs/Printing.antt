-- Numbers beside prints: what is added, and what stands there.
use Rattle.std.proofs.Common.{◌≡◌, ◌⊎◌, ◌<◌, ◌%◌, ◌+◌, ℕ, Bool, true, false, cond, List, [], ◌∷◌, ◌++◌, length, get_or, take, refl, sym, ap, subst, ◌∙◌, inl, inr, arith}
use Rattle.std.specs.Prelude.{Contains}
use Rattle.std.specs.BTreeSet.{BTreeSet, contains}
use Rattle.std.specs.Cmp.{nat_cmp_total}
use Rattle.std.specs.Ordering.{is_eq, nat_cmp}
use Rattle.std.specs.BTreeMap.{is_at}
use Rattle.std.proofs.lemmas.Cmp.{tied_itself}
use Rattle.std.proofs.lemmas.Bool.{or_cases}
use Rattle.std.proofs.lemmas.List.{get_or_default, take_more}
use Rattle.std.proofs.lemmas.Nat.{mod_below}
use Rattle.std.proofs.lemmas.List.Elements.{Contains-push_cases}
use Rattle.tup_path.specs.Name.{Names}
use Rattle.tup_rule.specs.declared.rule.Rule.{Rule}
use Rattle.tup_rule.proofs.Laws.{among-decides}
use Rattle.tup_record.specs.declared.run.RunRecord.{RunRecord}
use Rattle.tup_graph.specs.Lists.{Adds, IsIn, IsNamedBy, IsToldBy, Lists, StandsBeside, print_of}

-- ---- the numbers beside a print
-- what stands beside a print is in its list, as the code keeps it
pub stands_in : (lists inside : Lists) (list : List (ℕ × ℕ)) (print number : ℕ) → inside ≡ lists → length inside ≡ 256 → list ≡ get_or inside (print % 256) list → StandsBeside lists print number
    → Contains list (print, number)
stands_in lists inside list print number view long here stood =
    subst (λ (l : List (ℕ × ℕ)). Contains l (print, number))
    (ap (λ (l : Lists). get_or l (print % 256) []) (sym view) ∙ get_or_default inside (print % 256) [] list (subst (λ n. print % 256 < n) (sym long) (mod_below print 256 (omega arith))) ∙ sym here)
    stood

-- those of a list so far are in a set, and the next one
module _ (list : List (ℕ × ℕ)) (i print : ℕ) (default : ℕ × ℕ) (was : BTreeSet ℕ) (less : i < length list)
    (so_far : (number : ℕ) → Contains (take i list) (print, number) → contains nat_cmp was number ≡ true) where
  abbrev one : ℕ × ℕ
  one = get_or list i default

  cases_at : (number : ℕ) → Contains (take (i + 1) list) (print, number) → Contains (take i list) (print, number) ⊎ (get_or list i default ≡ (print, number))
  cases_at number found =
      Contains-push_cases (take i list) (get_or list i default) (print, number) (subst (λ (l : List (ℕ × ℕ)). Contains l (print, number)) (take_more list i default less) found)

  either : (b is : Bool) → is ≡ true → cond b true is ≡ true
  either true is e = refl
  either false is e = e

  pub number_found : (now : BTreeSet ℕ) → ((q : ℕ) → contains nat_cmp now q ≡ cond (is_at (nat_cmp one.1) q) true (contains nat_cmp was q))
      → (number : ℕ) → Contains (take (i + 1) list) (print, number) → contains nat_cmp now number ≡ true
  number_found now updates number found = elim (cases_at number found) [
    | inl before ↦ updates number ∙ either (is_at (nat_cmp one.1) number) (contains nat_cmp was number) (so_far number before)
    | inr same ↦ subst (λ k. contains nat_cmp now k ≡ true) (ap (λ (x : ℕ × ℕ). x.1) same) (updates one.1 ∙ ap (λ r. cond (is_eq r) true (contains nat_cmp was one.1)) (tied_itself nat_cmp_total one.1))
  ]

  pub number_passed : (one.0 ≡ print → ⊥) → (number : ℕ) → Contains (take (i + 1) list) (print, number) → contains nat_cmp was number ≡ true
  number_passed apart number found = elim (cases_at number found) [
    | inl before ↦ so_far number before
    | inr same ↦ absurd (apart (ap (λ (x : ℕ × ℕ). x.0) same))
  ]

-- ---- one after another
-- nothing is added
pub none_added : (number : ℕ) (P : Names → Type 0) (lists next : Lists) → next ≡ lists → ((path : Names) → P path → ⊥) → Adds number P lists next
none_added number P lists next same none = record {
  kept = λ print other stood. subst (λ (l : Lists). StandsBeside l print other) (sym same) stood;
  added = λ path one. absurd (none path one);
}

-- these, and then those
pub both_added : (number : ℕ) (P Q R : Names → Type 0) (old mid next : Lists) → Adds number P old mid → Adds number Q mid next → ((path : Names) → R path → P path ⊎ Q path) → Adds number R old next
both_added number P Q R old mid next these those either = record {
  kept = λ print other stood. those.kept print other (these.kept print other stood);
  added = λ path one. elim (either path one) [ inl this ↦ those.kept (print_of path) number (these.added path this) | inr that ↦ those.added path that ];
}

-- the paths of a list so far, and the next one
pub path_added : (number : ℕ) (paths : List Names) (i : ℕ) (path : Names) (old mid next : Lists) → i < length paths → path ≡ get_or paths i path
    → Adds number (Contains (take i paths)) old mid → Adds number (λ other. other ≡ path) mid next → Adds number (Contains (take (i + 1) paths)) old next
path_added number paths i path old mid next less here so_far one =
    both_added number (Contains (take i paths)) (λ other. other ≡ path) (Contains (take (i + 1) paths)) old mid next so_far one
    (λ other found. elim (Contains-push_cases (take i paths) path other (subst (λ (l : List Names). Contains l other) (more here) found)) [ inl before ↦ inl before | inr same ↦ inr (sym same) ])
  where
    more : path ≡ get_or paths i path → take (i + 1) paths ≡ take i paths ++ path ∷ []
    more here = take_more paths i path less ∙ ap (λ (p : Names). take i paths ++ p ∷ []) (sym here)

pub told_added : {T : Type 0} (number : ℕ) (told : List (Names × T)) (i : ℕ) (one : Names × T) (old mid next : Lists) → i < length told → one ≡ get_or told i one
    → Adds number (IsIn (take i told)) old mid → Adds number (λ other. other ≡ one.0) mid next → Adds number (IsIn (take (i + 1) told)) old next
told_added {T} number told i one old mid next less here so_far last =
    both_added number (IsIn (take i told)) (λ other. other ≡ one.0) (IsIn (take (i + 1) told)) old mid next so_far last
    (λ other found. elim (Contains-push_cases (take i told) one (other, found.0) (subst (λ (l : List (Names × T)). Contains l (other, found.0)) more found.1)) [
      | inl before ↦ inl (found.0, before)
      | inr same ↦ inr (sym (ap (λ (x : Names × T). x.0) same))
    ])
  where
    more : take (i + 1) told ≡ take i told ++ one ∷ []
    more = take_more told i one less ∙ ap (λ (p : Names × T). take i told ++ p ∷ []) (sym here)

-- what a rule names
pub rule_added : (number : ℕ) (rule : Rule) (a b c d : Lists) → Adds number (Contains rule.inputs) a b → Adds number (Contains rule.order) b c → Adds number (Contains rule.outputs) c d → Adds number (IsNamedBy rule) a d
rule_added number rule a b c d inputs order outputs =
    both_added number (λ path. Contains rule.inputs path ⊎ Contains rule.order path) (Contains rule.outputs) (IsNamedBy rule) a c d
    (both_added number (Contains rule.inputs) (Contains rule.order) (λ path. Contains rule.inputs path ⊎ Contains rule.order path) a b c inputs order (λ path one. one))
    outputs cases
  where
    cases : (path : Names) → IsNamedBy rule path → (Contains rule.inputs path ⊎ Contains rule.order path) ⊎ Contains rule.outputs path
    cases path (inl declared) = inl (elim (or_cases _ _ declared) [
      | inl input ↦ inl ((among-decides path rule.inputs).0 input)
      | inr order ↦ inr ((among-decides path rule.order).0 order)
    ])
    cases path (inr written) = inr ((among-decides path rule.outputs).0 written)

-- what the record of a run tells of
pub run_added : (number : ℕ) (run : RunRecord) (a b c : Lists) → Adds number (IsIn run.asks) a b → Adds number (IsIn run.writes) b c → Adds number (IsToldBy run) a c
run_added number run a b c asks writes = both_added number (IsIn run.asks) (IsIn run.writes) (IsToldBy run) a b c asks writes (λ path one. one)
