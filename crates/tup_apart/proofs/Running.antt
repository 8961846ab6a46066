-- Which plans may be run.
use Rattle.std.proofs.Common.{◌≡◌, ℕ, zero, true, List, refl, sym, ◌∙◌, subst, inl, inr}
use Rattle.std.specs.Prelude.{◌==◌, All, Contains, Some, get_or, slice_get}
use Rattle.std.proofs.lemmas.Bool.{cases_Bool, eq-eqb, eqb-true, false≢true}
use Rattle.std.proofs.lemmas.List.Elements.{All-contains, Contains-get_or}
use Rattle.std.proofs.lemmas.List.Folds.{Any-from_list_any, list_any-from_Any}
use Rattle.tup_path.specs.Name.{Names}
use Rattle.tup_rule.specs.declared.rule.Rule.{Rule}
use Rattle.tup_graph.specs.Graph.{GraphState, is_flagged}
use Rattle.tup_core.specs.declared.plan.Plan.{Plan}
use Rattle.tup_core.specs.Step.{is_reached}
use Rattle.tup_board.specs.Outputs.{AreApart, IsToMake}
use Rattle.tup_apart.specs.Run.{IsPlanned, MayRun, OutputsOnce}

-- what a plan runs stands in its list
pub listed : (plan : Plan) (number : ℕ) → is_reached plan number ≡ true → Contains plan.reach number
listed plan number reached =
    let found = Any-from_list_any (λ (other : ℕ). number == other) plan.reach reached in
    subst (Contains plan.reach) (sym (eqb-true number found.1 found.4)) (found.0, found.2, found.3)

pub in_list : (plan : Plan) (number : ℕ) → Contains plan.reach number → is_reached plan number ≡ true
in_list plan number here = list_any-from_Any (λ (other : ℕ). number == other) plan.reach (here.0, number, here.1, here.2, eq-eqb number number refl)

-- a plan that runs what is to be run, all of which is flagged, runs just the flagged rules
module _ (g : GraphState) (plan : Plan) (planned : IsPlanned g plan) where
  module _ (flagged : All (λ (number : ℕ). is_flagged g number ≡ true) plan.reach) where
    reached : (number : ℕ) → is_reached plan number ≡ is_flagged g number
    reached number =
        elim (cases_Bool (is_flagged g number)) [
          | inl is ↦ in_list plan number ((planned.reach number).1 (zero, is)) ∙ sym is
          | inr not ↦ elim (cases_Bool (is_reached plan number)) [
            | inl is ↦ absurd (false≢true (sym not ∙ All-contains (λ (other : ℕ). is_flagged g other ≡ true) plan.reach number flagged (listed plan number is)))
            | inr none ↦ none ∙ sym not
          ]
        ]

    -- and it may be run where the other tests are passed too
    pub may_be_run : OutputsOnce plan.rules → AreApart plan g → MayRun g plan
    may_be_run once apart = record { plan = record { rules = planned.rules; reach = reached; in_range = planned.range; near = planned.near }; reach = planned.reach; apart = apart; once = once }

  pub runs_flagged : MayRun g plan → All (λ (number : ℕ). is_flagged g number ≡ true) plan.reach
  runs_flagged may = λ at number within.
      let one = get_or plan.reach at number in
      sym (may.plan.reach one) ∙ in_list plan one (Contains-get_or plan.reach at number within)

  -- it may be run where any such plan may
  module _ (other : Plan) (may : MayRun g other) where
    rules_are : plan.rules ≡ other.rules
    rules_are = planned.rules ∙ sym may.plan.rules

    reached_too : (number : ℕ) → is_reached plan number ≡ true → is_reached other number ≡ true
    reached_too number is = in_list other number ((may.reach number).1 ((planned.reach number).0 (listed plan number is)))

    reach_is : (number : ℕ) → is_reached plan number ≡ is_flagged g number
    reach_is number =
        elim (cases_Bool (is_reached plan number)) [
          | inl is ↦ is ∙ sym (reached_too number is) ∙ may.plan.reach number
          | inr not ↦ elim (cases_Bool (is_flagged g number)) [
            | inl flag ↦ absurd (false≢true (sym not ∙ in_list plan number ((planned.reach number).1 (zero, flag))))
            | inr none ↦ not ∙ sym none
          ]
        ]

    to_make : (path : Names) → IsToMake plan path → IsToMake other path
    to_make path makes = (
      makes.0,
      reached_too makes.0 makes.1,
      record {
        rule = makes.2.rule;
        here = subst (λ (rules : List Rule). slice_get rules makes.0 ≡ Some makes.2.rule) rules_are makes.2.here;
        output = makes.2.output;
      },
    )

    pub as_another : MayRun g plan
    as_another = record {
      plan = record { rules = planned.rules; reach = reach_is; in_range = planned.range; near = planned.near };
      reach = planned.reach;
      apart = record {
        not_top = λ path makes. may.apart.not_top path (to_make path makes);
        above_seen = λ path seen makes. may.apart.above_seen path seen (to_make path makes);
        below_seen = λ path seen makes. may.apart.below_seen path seen (to_make path makes);
        above_other = λ path below makes also. may.apart.above_other path below (to_make path makes) (to_make below also);
        one_maker = λ at also rule another path is here there. may.apart.one_maker at also rule another path (reached_too at is)
            (subst (λ (rules : List Rule). slice_get rules at ≡ Some rule) rules_are here)
            (subst (λ (rules : List Rule). slice_get rules also ≡ Some another) rules_are there);
      };
      once = subst OutputsOnce (sym rules_are) may.once;
    }
