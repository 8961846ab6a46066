-- The commands of the rules whose names are taken for claims.
use Rattle.std.proofs.Common.{◌≡◌, ◌<◌, ℕ, true, List, [], ◌∷◌, length, map, Option, Some, None, All, ⊎_elim, refl, sym, ap, subst, arith, ◌∙◌}
use Rattle.std.specs.List.{cons_option, filter_map, slice_get}
use Rattle.std.specs.Option.{IsSome, option_map}
use Rattle.std.proofs.lemmas.List.Elements.{All-head, All-tail, All-weaker}
use Rattle.std.proofs.lemmas.Option.{none-some, same_Some, slice_get_cases}
use Rattle.tup_path.specs.Name.{Names as PathNames}
use Rattle.tup_rule.specs.declared.rule.Rule.{Rule}
use Rattle.tup_rule.specs.declared.rule.RuleName.{RuleName}
use Rattle.tup_rule.specs.Rule.{name_of}
use Rattle.tup_core.specs.declared.event.CoreEvent.{CoreEvent}
use Rattle.tup_core.specs.declared.plan.Plan.{Plan}
use Rattle.tup_core.specs.Run.{claims}
use Rattle.tup_core.specs.Sound.{IsInRange}
use Rattle.tup_core.specs.Step.{is_reached}
use Rattle.tup_board.specs.Calls.{command_of as command_in, commands}
use Rattle.tup_apart.proofs.Running.{listed}
use Rattle.tup_promise.specs.Ran.{command_of}
use Rattle.tup_update.specs.Names.{AreNamesOf, value_at}
use Rattle.tup_update.specs.declared.by_rule.ByRule.{ByRule}
use Rattle.tup_update.proofs.Waiting.{IsNamed}

module _ (rules : List Rule) (at : ℕ → Option RuleName) where
  -- the command of the rule with a number
  abbrev pub command_at : ℕ → Option (PathNames × List ℕ)
  command_at number = option_map command_in (slice_get rules number)

  pub one_more : (number : ℕ) (numbers : List ℕ) (name : RuleName) (ran : List RuleName) → Some name ≡ at number → IsNamed rules at number → map command_of ran ≡ filter_map command_at numbers
      → (found : Option Rule) → slice_get rules number ≡ found → map command_of (name ∷ ran) ≡ filter_map command_at (number ∷ numbers)
  one_more number numbers name ran here named rest None e = absurd (none-some name (sym (here ∙ named ∙ ap (option_map name_of) e)))
  one_more number numbers name ran here named rest (Some rule) e =
      ap (λ (one : RuleName). command_of one ∷ map command_of ran) (same_Some name (name_of rule) (here ∙ named ∙ ap (option_map name_of) e))
      ∙ ap (λ (more : List (PathNames × List ℕ)). command_in rule ∷ more) rest
      ∙ ap (λ (one : Option (PathNames × List ℕ)). cons_option one (filter_map command_at numbers)) (sym (ap (option_map command_in) e))

  pub commands_alike : (numbers : List ℕ) (ran : List RuleName) → map Some ran ≡ map at numbers → All (IsNamed rules at) numbers → map command_of ran ≡ filter_map command_at numbers
  commands_alike [] [] same named = refl
  commands_alike [] (name ∷ ran) same named = absurd (cc)
  commands_alike (number ∷ numbers) [] same named = absurd (cc)
  commands_alike (number ∷ numbers) (name ∷ ran) same named =
      let here : Some name ≡ at number = cc in
      let rest : map Some ran ≡ map at numbers = cc in
      one_more number numbers name ran here (All-head (IsNamed rules at) number numbers named) (commands_alike numbers ran rest (All-tail (IsNamed rules at) number numbers named)) (slice_get rules number) refl

-- within a list there is something
slice_get_some : (rules : List Rule) (number : ℕ) → number < length rules → IsSome (slice_get rules number)
slice_get_some rules number within = ⊎_elim
    (λ here. subst IsSome (sym here.2) refl)
    (λ past. absurd (omega (arith, within, past.0)))
    (slice_get_cases rules number).1

-- each rule of the reach has a name
pub have_names : (plan : Plan) (numbers : List ℕ) → IsInRange plan → All (λ number. is_reached plan number ≡ true) numbers → All (λ number. IsSome (option_map name_of (slice_get plan.rules number))) numbers
have_names plan numbers range reached =
    All-weaker (λ number. is_reached plan number ≡ true) (λ number. IsSome (option_map name_of (slice_get plan.rules number))) (λ number here. by (slice_get plan.rules number) (slice_get_some plan.rules number (range number here))) numbers reached
  where
    by : (found : Option Rule) → IsSome found → IsSome (option_map name_of found)
    by None some = absurd (cc)
    by (Some rule) some = refl

-- ---- the names that a plan has for the claims of its rules
module _ (plan : Plan) (names : ByRule RuleName) (are : AreNamesOf plan names) (range : IsInRange plan) where
  has_name : (number : ℕ) → is_reached plan number ≡ true → IsNamed plan.rules (value_at names) number
  has_name number reached = are.waits number (listed plan number reached)

  some_name : (number : ℕ) → is_reached plan number ≡ true → IsSome (value_at names number)
  some_name number reached =
      subst IsSome (sym (has_name number reached)) (by (slice_get plan.rules number) (slice_get_some plan.rules number (range number reached)))
    where
      by : (found : Option Rule) → IsSome found → IsSome (option_map name_of found)
      by None some = absurd (cc)
      by (Some rule) some = refl

  pub all_named : (numbers : List ℕ) → All (λ number. is_reached plan number ≡ true) numbers → All (IsNamed plan.rules (value_at names)) numbers
  all_named numbers reached = All-weaker (λ number. is_reached plan number ≡ true) (IsNamed plan.rules (value_at names)) has_name numbers reached

  pub all_some : (numbers : List ℕ) → All (λ number. is_reached plan number ≡ true) numbers → All (λ number. IsSome (value_at names number)) numbers
  all_some numbers reached = All-weaker (λ number. is_reached plan number ≡ true) (λ number. IsSome (value_at names number)) some_name numbers reached

  pub ran_commands : (events : List CoreEvent) → All (λ number. is_reached plan number ≡ true) (claims events) → (ran : List RuleName) → map Some ran ≡ map (value_at names) (claims events)
      → map command_of ran ≡ commands plan events
  ran_commands events reached ran same =
      commands_alike plan.rules (value_at names) (claims events) ran same (All-weaker (λ number. is_reached plan number ≡ true) (IsNamed plan.rules (value_at names)) has_name (claims events) reached)
