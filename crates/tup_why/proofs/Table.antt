-- The table of causes, one rule more.
use Rattle.std.specs.Prelude.{◌≡◌, ℕ, ◌+◌, ◌<◌, Bool, true, false, cond, List, [], ◌∷◌, ◌++◌, Option, None, Some, Contains, IsSome, length, slice_get}
use Rattle.std.proofs.Common.{refl, sym, ap, subst, ◌∙◌, inl, inr, take, get_or, arith}
use Rattle.std.proofs.lemmas.List.Elements.{Contains-push_cases}
use Rattle.std.proofs.lemmas.Option.{none-some, same_Some}
use Rattle.std.specs.BTreeMap.{get}
use Rattle.std.specs.Ordering.{nat_cmp, eq_by_cmp}
use Rattle.tup_rule.specs.declared.rule.Rule.{Rule}
use Rattle.tup_graph.specs.Graph.{GraphState}
use Rattle.tup_core.specs.declared.plan.Plan.{Plan}
use Rattle.tup_closure.proofs.Asked.{taken}
use Rattle.tup_closure.proofs.Members.{number-decides}
use Rattle.tup_why.specs.Cause.{AreCausesAmong, IsCause}
use Rattle.tup_why.specs.Reason.{IsPlanned}
use Rattle.tup_why.specs.declared.cause.Cause.{Cause}
use Rattle.tup_why.specs.declared.reasons.Reasons.{Reasons}

none_listed : {X : Type 0} (x : X) → Contains [] x → ⊥
none_listed x h = let less = h.1 in omega arith

module _ (g : GraphState) (plan : Plan) where
  pub no_causes : (reasons : Reasons) → ((number : ℕ) → get nat_cmp reasons.causes number ≡ None) → AreCausesAmong g plan [] reasons
  no_causes reasons empty = record {
    true_of = λ number cause here. absurd (none-some cause (sym (empty number) ∙ here));
    each = λ number rule h here. absurd (none_listed number h);
  }

  -- a number that is no rule's
  pub none_added : (numbers : List ℕ) (number : ℕ) (old : Reasons) → slice_get plan.rules number ≡ None → AreCausesAmong g plan numbers old
      → AreCausesAmong g plan (numbers ++ number ∷ []) old
  none_added numbers number old none are = record {
    true_of = are.true_of;
    each = λ other rule h here. elim (Contains-push_cases numbers number other h) [
      | inl before ↦ are.each other rule before here
      | inr last ↦ absurd (none-some rule (sym none ∙ subst (λ (n : ℕ). slice_get plan.rules n ≡ Some rule) (sym last) here))
    ];
  }

  module _ (numbers : List ℕ) (number : ℕ) (rule : Rule) (cause : Cause) (old new : Reasons) (planned : IsPlanned plan number rule) (is : IsCause g plan number rule cause)
      (written : (q : ℕ) → get nat_cmp new.causes q ≡ cond (eq_by_cmp nat_cmp number q) (Some cause) (get nat_cmp old.causes q)) (are : AreCausesAmong g plan numbers old) where
    abbrev by : ℕ → Bool → Option Cause
    by q b = cond b (Some cause) (get nat_cmp old.causes q)

    abbrev IsTrueOf : ℕ → Cause → Type 0
    IsTrueOf q c = (r : Rule) × IsPlanned plan q r × IsCause g plan q r c

    found : (q : ℕ) (c : Cause) (b : Bool) → eq_by_cmp nat_cmp number q ≡ b → by q b ≡ Some c → IsTrueOf q c
    found q c true e here =
        subst (λ (n : ℕ). IsTrueOf n c) ((number-decides number q).0 e)
        (rule, planned, subst (IsCause g plan number rule) (same_Some cause c here) is)
    found q c false e here = are.true_of q c here

    is_there : (q : ℕ) (b : Bool) → IsSome (get nat_cmp old.causes q) → IsSome (by q b)
    is_there q true was = refl
    is_there q false was = was

    pub cause_added : AreCausesAmong g plan (numbers ++ number ∷ []) new
    cause_added = record {
      true_of = λ q c here. found q c (eq_by_cmp nat_cmp number q) refl (sym (written q) ∙ here);
      each = λ q r h here. elim (Contains-push_cases numbers number q h) [
        | inl before ↦ subst IsSome (sym (written q)) (is_there q (eq_by_cmp nat_cmp number q) (are.each q r before here))
        | inr last ↦ subst IsSome (sym (written q ∙ ap (by q) ((number-decides number q).1 last))) refl
      ];
    }

  pub one_more : (i number d : ℕ) (reasons : Reasons) → i < length plan.reach → number ≡ get_or plan.reach i d
      → AreCausesAmong g plan (take i plan.reach ++ number ∷ []) reasons → AreCausesAmong g plan (take (i + 1) plan.reach) reasons
  one_more i number d reasons less is = subst (λ (l : List ℕ). AreCausesAmong g plan l reasons) (sym (taken plan.reach i number d less is))
