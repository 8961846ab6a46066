-- The names of the rules of a plan, put into a map one after another.
use Rattle.std.proofs.Common.{◌≡◌, ◌≢◌, ◌<◌, ℕ, false, List, [], ◌∷◌, ◌++◌, length, get_or, Option, Some, ⊎_elim, refl, subst, ◌∙◌}
use Rattle.std.specs.FinMap.{nat_cmp-IsAntisymmetric}
use Rattle.std.specs.List.{Contains, slice_get}
use Rattle.std.specs.Option.{option_map}
use Rattle.std.specs.Ordering.{eq_by_cmp, nat_cmp}
use Rattle.std.proofs.lemmas.Bool.Decides.{eqb_tells}
use Rattle.std.proofs.lemmas.List.Elements.{All-cons, All-contains, All-nil, Contains-append_cases, Contains-get_or}
use Rattle.tup_rule.specs.declared.rule.Rule.{Rule}
use Rattle.tup_rule.specs.declared.rule.RuleName.{RuleName}
use Rattle.tup_rule.specs.Rule.{name_of}
use Rattle.tup_graph.proofs.Maps.{equal_of, not_true}
use Rattle.tup_core.specs.declared.plan.Plan.{Plan}
use Rattle.tup_core.specs.Sound.{IsInRange}
use Rattle.tup_apart.proofs.Running.{in_list}

-- a number has the name of its rule
abbrev pub IsNamed : List Rule → (ℕ → Option RuleName) → ℕ → Type 0
IsNamed rules at number = at number ≡ option_map name_of (slice_get rules number)

apart_from : (m n : ℕ) → m ≢ n → eq_by_cmp nat_cmp m n ≡ false
apart_from m n differ = not_true (eq_by_cmp nat_cmp m n) (λ same. differ (nat_cmp-IsAntisymmetric m n (equal_of (nat_cmp m n) same)))

-- of a list with one more number each other one stands before it
in_front : (done : List ℕ) (number at : ℕ) → number ≢ at → Contains (done ++ number ∷ []) at → Contains done at
in_front done number at differ contains = ⊎_elim
    (λ here. here)
    (λ last. absurd (differ (All-contains (λ n. number ≡ n) (number ∷ []) at (All-cons (λ n. number ≡ n) number [] refl (All-nil (λ n. number ≡ n))) last)))
    (Contains-append_cases done (number ∷ []) at contains)

-- one more name
pub put_name : (rules : List Rule) (before after : ℕ → Option RuleName) (number : ℕ) (name : RuleName) → after number ≡ Some name
    → ((other : ℕ) → eq_by_cmp nat_cmp number other ≡ false → after other ≡ before other) → Some name ≡ option_map name_of (slice_get rules number)
    → (done : List ℕ) → ((at : ℕ) → Contains done at → IsNamed rules before at) → (at : ℕ) → Contains (done ++ number ∷ []) at → IsNamed rules after at
put_name rules before after number name put others here done named at contains = ⊎_elim
    (λ same. subst (IsNamed rules after) same.1 (put ∙ here))
    (λ differ. others at (apart_from number at differ.1) ∙ named at (in_front done number at differ.1 contains))
    (eqb_tells number at)

-- each rule that a plan has to run is there
pub within : (plan : Plan) → IsInRange plan → (k : ℕ) → k < length plan.reach → get_or plan.reach k 0 < length plan.rules
within plan range k below = range (get_or plan.reach k 0) (in_list plan (get_or plan.reach k 0) (Contains-get_or plan.reach k 0 below))
