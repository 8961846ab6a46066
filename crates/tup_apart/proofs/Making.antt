-- Who makes the outputs of the rules so far.
use Rattle.std.proofs.Common.{◌≡◌, ℕ, Bool, true, false, ◌||◌, cond, List, [], ◌∷◌, ◌++◌, Option, Some, None, refl, sym, ap, ◌∙◌, subst, inl, inr, arith, append_assoc}
use Rattle.std.specs.Prelude.{Contains, IsSome, fold, option_map, slice_get, unwrap_or}
use Rattle.std.specs.FinMap as finite
use Rattle.std.proofs.lemmas.Bool.{cases_Bool, false≢true}
use Rattle.std.proofs.lemmas.List.{append-nil}
use Rattle.std.proofs.lemmas.List.Elements.{Contains-append_left, Contains-push, Contains-push_cases}
use Rattle.std.proofs.lemmas.Option.{none-some, same_Some}
use Rattle.tup_path.specs.Name.{Names}
use Rattle.tup_path.specs.Order.{by_names, by_names-total, same_path, same_path-by_names}
use Rattle.tup_rule.specs.declared.rule.Rule.{Rule}
use Rattle.tup_rule.specs.Rule.{among}
use Rattle.tup_core.specs.declared.plan.Plan.{Plan}
use Rattle.tup_core.specs.Step.{is_reached}
use Rattle.tup_board.specs.Outputs.{IsToMake, Makes}
use Rattle.tup_apart.specs.Makers.{Makers, makers_in, outputs_at, with_maker, with_outputs}
use Rattle.tup_apart.proofs.Running.{listed, in_list}

-- after a rule's outputs were put in
one_more : (a b : Bool) (x y : Option ℕ) → cond a x (cond b x y) ≡ cond (b || a) x y
one_more true true x y = refl
one_more true false x y = refl
one_more false true x y = refl
one_more false false x y = refl

with_all : (number : ℕ) (makers : Makers) (outputs : List Names) (path : Names) → finite.get (fold (with_maker number) makers outputs) path ≡ cond (among path outputs) (Some number) (finite.get makers path)
with_all number makers [] path = refl
with_all number makers (first ∷ outputs) path =
    with_all number (finite.insert makers first number) outputs path
    ∙ ap (cond (among path outputs) (Some number)) (finite.get-insert by_names-total makers first number path
    ∙ ap (λ (same : Bool). cond same (Some number) (finite.get makers path)) (sym (same_path-by_names path first)))
    ∙ one_more (among path outputs) (same_path path first) (Some number) (finite.get makers path)

-- a map has the outputs of the rules of these numbers, and for each such a rule that makes it
pub record AreMakersAmong (plan : Plan) (numbers : List ℕ) (makers : Makers) : Type 0 where
  pub makes : (path : Names) (number : ℕ) → finite.get makers path ≡ Some number → Contains numbers number × Makes plan number path
  pub each : (path : Names) (number : ℕ) → Contains numbers number → Makes plan number path → IsSome (finite.get makers path)

none_yet : (plan : Plan) → AreMakersAmong plan [] finite.empty
none_yet plan = record {
  makes = λ path number got. absurd (none-some number (sym (finite.get-empty by_names path) ∙ got));
  each = λ path number here makes. absurd (omega (arith, here.1));
}

-- what a rule makes stands among its outputs, and the other way round
module _ (plan : Plan) (number : ℕ) where
  pub its_outputs : (rule : Rule) → slice_get plan.rules number ≡ Some rule → outputs_at plan.rules number ≡ rule.outputs
  its_outputs rule here = ap (λ (o : Option Rule). unwrap_or (option_map (λ (r : Rule). r.outputs) o) []) here

  pub a_rule : (path : Names) → among path (outputs_at plan.rules number) ≡ true → Makes plan number path
  a_rule path made = by (slice_get plan.rules number) refl
    where
      by : (o : Option Rule) → slice_get plan.rules number ≡ o → Makes plan number path
      by (Some rule) here = record { rule = rule; here = here; output = ap (among path) (sym (its_outputs rule here)) ∙ made }
      by None here = absurd (false≢true (sym (ap (λ (o : Option Rule). among path (unwrap_or (option_map (λ (r : Rule). r.outputs) o) [])) here) ∙ made))

module _ (plan : Plan) (numbers : List ℕ) (number : ℕ) (old : Makers) (before : AreMakersAmong plan numbers old) where
  abbrev new : Makers
  new = with_outputs plan.rules old number

  got_now : (path : Names) → finite.get new path ≡ cond (among path (outputs_at plan.rules number)) (Some number) (finite.get old path)
  got_now path = with_all number old (outputs_at plan.rules number) path

  one_rule_more : AreMakersAmong plan (numbers ++ number ∷ []) new
  one_rule_more = record {
    makes = λ path other got. elim (cases_Bool (among path (outputs_at plan.rules number))) [
      | inl made ↦
          let same : number ≡ other = same_Some number other (sym (ap (λ (b : Bool). cond b (Some number) (finite.get old path)) made) ∙ sym (got_now path) ∙ got) in
          subst (λ (n : ℕ). Contains (numbers ++ number ∷ []) n × Makes plan n path) same (Contains-push numbers number, a_rule plan number path made)
      | inr not_made ↦
          let earlier = before.makes path other (sym (ap (λ (b : Bool). cond b (Some number) (finite.get old path)) not_made) ∙ sym (got_now path) ∙ got) in
          (Contains-append_left numbers (number ∷ []) other earlier.0, earlier.1)
    ];
    each = λ path other inside makes. subst IsSome (sym (got_now path)) (elim (Contains-push_cases numbers number other inside) [
      | inl earlier ↦ kept (among path (outputs_at plan.rules number)) (finite.get old path) (before.each path other earlier makes)
      | inr same ↦
          let here = ap (slice_get plan.rules) same ∙ makes.here in
          made_now (among path (outputs_at plan.rules number)) (finite.get old path) (ap (among path) (its_outputs plan number makes.rule here) ∙ makes.output)
    ]);
  }
    where
      kept : (b : Bool) (o : Option ℕ) → IsSome o → IsSome (cond b (Some number) o)
      kept true o some = refl
      kept false o some = some

      made_now : (b : Bool) (o : Option ℕ) → b ≡ true → IsSome (cond b (Some number) o)
      made_now true o is = refl
      made_now false o is = absurd (false≢true is)

all_more : (plan : Plan) (done more : List ℕ) (makers : Makers) → AreMakersAmong plan done makers → AreMakersAmong plan (done ++ more) (fold (with_outputs plan.rules) makers more)
all_more plan done [] makers before = subst (λ (numbers : List ℕ). AreMakersAmong plan numbers makers) (sym (append-nil done)) before
all_more plan done (number ∷ more) makers before =
    subst (λ (numbers : List ℕ). AreMakersAmong plan numbers (fold (with_outputs plan.rules) makers (number ∷ more))) (append_assoc done (number ∷ []) more)
    (all_more plan (done ++ number ∷ []) more (with_outputs plan.rules makers number) (one_rule_more plan done number makers before))

-- a map has the outputs of the rules that a plan runs, and for each such a rule that makes it
pub record AreMakers (plan : Plan) (makers : Makers) : Type 0 where
  pub makes : (path : Names) (number : ℕ) → finite.get makers path ≡ Some number → (is_reached plan number ≡ true) × Makes plan number path
  pub each : (path : Names) → IsToMake plan path → IsSome (finite.get makers path)

pub are_makers : (plan : Plan) → AreMakers plan (makers_in plan)
are_makers plan =
    let all = all_more plan [] plan.reach finite.empty (none_yet plan) in
    record {
      makes = λ path number got. (in_list plan number (all.makes path number got).0, (all.makes path number got).1);
      each = λ path makes. all.each path makes.0 (listed plan makes.0 makes.1) makes.2;
    }
