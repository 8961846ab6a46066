-- The names of rules by their numbers, one after another; and where a number stands among the claims of a run.
use Rattle.std.proofs.Common.{◌≡◌, ◌⊎◌, inl, inr, ℕ, zero, suc, Bool, true, false, List, [], ◌∷◌, ◌++◌, map, Option, Some, refl, sym, ap, subst, ◌∙◌}
use Rattle.std.specs.List.{AllByRecursion, IsDistinct, cons_option, filter_map}
use Rattle.std.specs.Option.{option_map}
use Rattle.std.specs.Prelude.{Contains, nat_eq, slice_get}
use Rattle.std.proofs.lemmas.Bool.{eq-eqb, true≢false}
use Rattle.std.proofs.lemmas.Option.{get_or_from_slice_get, none-some, same_Some, slice_get_within}
use Rattle.tup_path.specs.Name.{Names}
use Rattle.tup_rule.specs.Rule.{name_of}
use Rattle.tup_rule.specs.declared.rule.Rule.{Rule}
use Rattle.tup_rule.specs.declared.rule.RuleName.{RuleName}
use Rattle.tup_core.specs.declared.event.CoreEvent.{CoreEvent}
use Rattle.tup_core.specs.declared.event.CoreEvent.TheVariants.{Claim, Ask, Deny, Finish, Stop}
use Rattle.tup_core.specs.declared.plan.Plan.{Plan}
use Rattle.tup_core.specs.Laws.{IsClaimed}
use Rattle.tup_core.specs.Run.{IsRun, end_of}
use Rattle.tup_core.specs.Step.{State, after, emptied}
use Rattle.tup_core.proofs.Changed.{changed_cases}
use Rattle.tup_core.proofs.Orderly.{claimed_ended, finished_is}
use Rattle.tup_board.specs.Calls.{command_of as rule_command}
use Rattle.tup_promise.specs.Needed.{HasName}
use Rattle.tup_promise.specs.Ran.{command_of}

-- ---- places

-- an element is among those of its list
pub contains_at : {X : Type 0} (items : List X) (place : ℕ) (x : X) → slice_get items place ≡ Some x → Contains items x
contains_at items place x here = (place, slice_get_within items place x here, get_or_from_slice_get items place x x here)

none_behind : (first : ℕ) (rest : List ℕ) → AllByRecursion (λ other. nat_eq first other ≡ false) rest → (place : ℕ) → slice_get rest place ≡ Some first → ⊥
none_behind first [] apart place is = none-some first is
none_behind first (next ∷ rest) apart zero is = true≢false (sym (eq-eqb first next (sym (same_Some next first is))) ∙ apart.0)
none_behind first (next ∷ rest) apart (suc place) is = none_behind first rest apart.1 place is

-- a number that stands once has one place
pub one_place : (numbers : List ℕ) → IsDistinct nat_eq numbers → (one other number : ℕ) → slice_get numbers one ≡ Some number → slice_get numbers other ≡ Some number → one ≡ other
unfolding IsDistinct
one_place [] once one other number here there = absurd (none-some number here)
one_place (first ∷ rest) once zero zero number here there = refl
one_place (first ∷ rest) once zero (suc other) number here there =
    absurd (none_behind first rest once.0 other (there ∙ ap Some (sym (same_Some first number here))))
one_place (first ∷ rest) once (suc one) zero number here there =
    absurd (none_behind first rest once.0 one (here ∙ ap Some (sym (same_Some first number there))))
one_place (first ∷ rest) once (suc one) (suc other) number here there = ap suc (one_place rest once.1 one other number here there)

-- ---- names
module _ (rules : List Rule) where
  abbrev pub command_at : ℕ → Option (Names × List ℕ)
  command_at number = option_map rule_command (slice_get rules number)

  -- the names of the rules with these numbers, in their order
  abbrev pub AreNames : List ℕ → List RuleName → Type 0
  AreNames [] [] = Unit {0}
  AreNames (number ∷ numbers) (name ∷ names) = HasName rules number name × AreNames numbers names
  AreNames [] (name ∷ names) = ⊥
  AreNames (number ∷ numbers) [] = ⊥

  same_name : (rule : Rule) (name : RuleName) → command_of name ≡ rule_command rule → name_of rule ≡ name
  same_name rule name same = λ i. record { dir = (sym same i).0; text = (sym same i).1 }

  -- numbers of rules whose commands are those of some names
  pub are_names : (numbers : List ℕ) (names : List RuleName) → ((place number : ℕ) → slice_get numbers place ≡ Some number → (rule : Rule) × (slice_get rules number ≡ Some rule))
      → map command_of names ≡ filter_map command_at numbers → AreNames numbers names
  are_names [] [] within same = tt
  are_names [] (name ∷ names) within same = absurd (let wrong : command_of name ∷ map command_of names ≡ [] = same in cc)
  are_names (number ∷ numbers) names within same = by names all (λ rest tail. are_names numbers rest (λ place other here. within (suc place) other here) tail)
    where
      it : (rule : Rule) × (slice_get rules number ≡ Some rule)
      it = within zero number refl

      all : map command_of names ≡ rule_command it.0 ∷ filter_map command_at numbers
      all = same ∙ ap (λ (found : Option Rule). cons_option (option_map rule_command found) (filter_map command_at numbers)) it.1

      by : (names : List RuleName) → map command_of names ≡ rule_command it.0 ∷ filter_map command_at numbers
          → ((rest : List RuleName) → map command_of rest ≡ filter_map command_at numbers → AreNames numbers rest) → AreNames (number ∷ numbers) names
      by [] e behind = absurd (let wrong : [] ≡ rule_command it.0 ∷ filter_map command_at numbers = e in cc)
      by (name ∷ names) e behind =
          let head : command_of name ≡ rule_command it.0 = cc in
          let tail : map command_of names ≡ filter_map command_at numbers = cc in
          ((it.0, it.1, same_name it.0 name head), behind names tail)

  -- a name is that of the number at its place
  pub number_of : (numbers : List ℕ) (names : List RuleName) → AreNames numbers names → (place : ℕ) (name : RuleName) → slice_get names place ≡ Some name
      → (number : ℕ) × (slice_get numbers place ≡ Some number) × HasName rules number name
  number_of [] [] are place name here = absurd (none-some name here)
  number_of [] (first ∷ names) are place name here = absurd are
  number_of (number ∷ numbers) [] are place name here = absurd are
  number_of (number ∷ numbers) (first ∷ names) are zero name here = (number, refl, subst (HasName rules number) (same_Some first name here) are.0)
  number_of (number ∷ numbers) (first ∷ names) are (suc place) name here = number_of numbers names are.1 place name here

  -- and a number's name stands at its place
  pub name_at : (numbers : List ℕ) (names : List RuleName) → AreNames numbers names → (place number : ℕ) → slice_get numbers place ≡ Some number
      → (name : RuleName) × (slice_get names place ≡ Some name) × HasName rules number name
  name_at [] [] are place number here = absurd (none-some number here)
  name_at [] (first ∷ names) are place number here = absurd are
  name_at (first ∷ numbers) [] are place number here = absurd are
  name_at (first ∷ numbers) (name ∷ names) are zero number here = (name, refl, subst (λ (n : ℕ). HasName rules n name) (same_Some first number here) are.0)
  name_at (first ∷ numbers) (name ∷ names) are (suc place) number here = name_at numbers names are.1 place number here

  -- the last name is that of the last number
  pub last_name : (front : List ℕ) (at : ℕ) (names : List RuleName) → AreNames (front ++ at ∷ []) names → (before : List RuleName) × (last : RuleName) × (names ≡ before ++ last ∷ []) × HasName rules at last
  last_name [] at [] are = absurd are
  last_name [] at (name ∷ []) are = ([], name, refl, are.0)
  last_name [] at (name ∷ next ∷ names) are = absurd are.1
  last_name (first ∷ front) at [] are = absurd are
  last_name (first ∷ front) at (name ∷ names) are =
      (let found = last_name front at names are.1 in (name ∷ found.0, found.1, ap (λ (l : List RuleName). name ∷ l) found.2, found.3))

-- ---- claims

-- a rule that was claimed in a run was claimed before it, or is among its claims
pub claimed_there : (plan : Plan) (events : List CoreEvent) (state : State) (at : ℕ) → IsRun plan state events → (end_of plan state events).claimed at ≡ true
    → (state.claimed at ≡ true) ⊎ ((place : ℕ) × IsClaimed events place at)
claimed_there plan [] state at run claimed = inl claimed
claimed_there plan (Claim seat rule ∷ events) state at (enabled, run) claimed = by (claimed_there plan events (after plan state (Claim seat rule)) at run claimed)
  where
    by : ((after plan state (Claim seat rule)).claimed at ≡ true) ⊎ ((place : ℕ) × IsClaimed events place at) → (state.claimed at ≡ true) ⊎ ((place : ℕ) × IsClaimed (Claim seat rule ∷ events) place at)
    by (inr (place, there)) = inr (suc place, there)
    by (inl before) = elim (changed_cases state.claimed rule true at) [
      | inl here ↦ inr (zero, ap Some (sym here.0))
      | inr there ↦ inl (sym there.1 ∙ before)
    ]
claimed_there plan (Ask seat text answer ∷ events) state at (enabled, run) claimed = claimed_there plan events (after plan state (Ask seat text answer)) at run claimed
claimed_there plan (Deny seat text verdict ∷ events) state at (enabled, run) claimed = claimed_there plan events (after plan state (Deny seat text verdict)) at run claimed
claimed_there plan (Finish seat verdict written ∷ events) state at (enabled, run) claimed = by (claimed_there plan events (after plan state (Finish seat verdict written)) at run claimed)
  where
    by : ((after plan state (Finish seat verdict written)).claimed at ≡ true) ⊎ ((place : ℕ) × IsClaimed events place at) → (state.claimed at ≡ true) ⊎ ((place : ℕ) × IsClaimed (Finish seat verdict written ∷ events) place at)
    by (inr there) = inr there
    by (inl before) =
        inl (sym (ap (λ (s : State). s.claimed at) (finished_is plan state seat enabled.0 verdict written enabled.2.here)
        ∙ ap (λ (c : ℕ → Bool). c at) (claimed_ended plan (emptied state seat) enabled.0.rule verdict written)) ∙ before)
claimed_there plan (Stop seat cause ∷ events) state at (enabled, run) claimed = claimed_there plan events (after plan state (Stop seat cause)) at run claimed
