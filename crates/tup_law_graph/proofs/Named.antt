-- No two linked rules have one name.
use Rattle.std.proofs.Common.{◌≡◌, inl, inr, ℕ, zero, suc, ◌+◌, ◌<◌, Bool, true, false, cond, List, [], ◌∷◌, ◌++◌, length, take, Option, Some, None, slice_get, bytes_eq, option_map, refl, sym, ap, ◌∙◌, subst, append_assoc, append-nil, arith, length-append, length-take, get_or-take}
use Rattle.std.specs.List.{list_any}
use Rattle.std.specs.Option.{option_or, option_and_then}
use Rattle.std.proofs.lemmas.Bool.{and_from, both_ways, cases_order}
use Rattle.std.proofs.lemmas.List.{length-map}
use Rattle.std.proofs.lemmas.List.Folds.{list_any_at}
use Rattle.std.proofs.lemmas.Option.{none-some, same_Some, get_or_from_slice_get, slice_get_cases, slice_get_within}
use Rattle.std.proofs.lemmas.Slice.Eq.{bytes_eq-Decides}
use Rattle.tup_path.specs.Name.{Names}
use Rattle.tup_path.specs.Order.{same_path}
use Rattle.tup_path.proofs.Same.{same_path-decides}
use Rattle.tup_rule.specs.Rule.{name_of}
use Rattle.tup_rule.specs.declared.question.Reading.{Reading}
use Rattle.tup_rule.specs.declared.rule.Rule.{Rule}
use Rattle.tup_rule.specs.declared.rule.RuleName.{RuleName}
use Rattle.tup_link.specs.Faults.{duplicate, early_fault, fault_of_groups, fault_of_rules, missing_group, repeated, same_command, taken, too_many_commands, too_many_links, twice}
use Rattle.tup_link.specs.Groups.{members}
use Rattle.tup_link.specs.Linked.{rule_of, rules_in, rules_of}
use Rattle.tup_link.specs.Placed.{Placed, drafts_of, placed}
use Rattle.tup_link.specs.declared.fault.LinkFault.{LinkFault}
use Rattle.tup_project.specs.Project.{AreLinked}
use Rattle.tup_law_graph.specs.Linking.{HaveOwnNames}

-- ---- rules of which none repeats a command

-- none before a rule has its command
new_at : (before rules : List Rule) (at : ℕ) (rule : Rule) → repeated before rules ≡ None → slice_get rules at ≡ Some rule → list_any (same_command rule) (before ++ take at rules) ≡ false
new_at before [] at rule none here = absurd (none-some rule here)
new_at before (first ∷ rules) at rule none here = by (list_any (same_command first) before) refl none at here (λ later none here. new_at (before ++ first ∷ []) rules later rule none here)
  where
    by : (b : Bool) → list_any (same_command first) before ≡ b → cond b (Some (length before)) (repeated (before ++ first ∷ []) rules) ≡ None → (at : ℕ) → slice_get (first ∷ rules) at ≡ Some rule
        → ((later : ℕ) → repeated (before ++ first ∷ []) rules ≡ None → slice_get rules later ≡ Some rule → list_any (same_command rule) ((before ++ first ∷ []) ++ take later rules) ≡ false)
        → list_any (same_command rule) (before ++ take at (first ∷ rules)) ≡ false
    by true there none at here further = absurd (none-some (length before) (sym none))
    by false new none zero here further =
        subst (λ (r : Rule). list_any (same_command r) (before ++ []) ≡ false) (same_Some first rule here) (ap (list_any (same_command first)) (append-nil before) ∙ new)
    by false new none (suc later) here further = ap (list_any (same_command rule)) (sym (append_assoc before (first ∷ []) (take later rules))) ∙ further later none here

same_name : (rule same : Rule) → name_of rule ≡ name_of same → same_command same rule ≡ true
same_name rule same named =
    and_from (same_path same.dir rule.dir) (bytes_eq same.text rule.text) ((same_path-decides same.dir rule.dir).1 (sym (ap (λ (n : RuleName). n.dir) named)))
    ((bytes_eq-Decides same.text rule.text).1 (sym (ap (λ (n : RuleName). n.text) named)))

own_names : (rules : List Rule) → repeated [] rules ≡ None → HaveOwnNames rules
own_names rules none number other rule same here there named = elim (cases_order number other) [
  | inl is ↦ is
  | inr apart ↦ elim apart [
    | inl less ↦ absurd (again number other rule same here there named less)
    | inr more ↦ absurd (again other number same rule there here (sym named) more)
  ]
]
  where
    again : (at later : ℕ) (one more : Rule) → slice_get rules at ≡ Some one → slice_get rules later ≡ Some more → name_of one ≡ name_of more → at < later → ⊥
    again at later one more here there named less =
        let within : at < length rules = slice_get_within rules at one here in
        let inside : at < length (take later rules) = omega (arith, length-take later rules) in
        both_ways (list_any (same_command more) (take later rules)) (new_at [] rules later more none there)
        (list_any_at (same_command more) (take later rules) at one inside
        (ap (same_command more) (get_or-take later rules at one less ∙ get_or_from_slice_get rules at one one here) ∙ same_name one more named))

-- ---- linking has no fault

later_none : (one other : Option LinkFault) → option_or one other ≡ None → other ≡ None
later_none None other e = e
later_none (Some fault) other e = absurd (none-some fault (sym e))

-- the place of a repeated command is that of a rule
repeated_within : (before rules : List Rule) (at : ℕ) → repeated before rules ≡ Some at → at < length before + length rules
repeated_within before [] at e = absurd (none-some at e)
repeated_within before (first ∷ rules) at e = by (list_any (same_command first) before) e (repeated_within (before ++ first ∷ []) rules at)
  where
    by : (b : Bool) → cond b (Some (length before)) (repeated (before ++ first ∷ []) rules) ≡ Some at
        → (repeated (before ++ first ∷ []) rules ≡ Some at → at < length (before ++ first ∷ []) + length rules) → at < length before + suc (length rules)
    by true here later = let is : length before ≡ at = same_Some (length before) at here in omega (arith, is)
    by false there later = let less = later there in omega (arith, less, length-append before (first ∷ []))

none_repeats : (all : List Placed) (rules : List Rule) → length rules ≡ length all → duplicate all rules ≡ None → repeated [] rules ≡ None
none_repeats all rules long none = by (repeated [] rules) refl none
  where
    by : (found : Option ℕ) → repeated [] rules ≡ found → option_and_then (λ at. option_map twice (slice_get all at)) found ≡ None → repeated [] rules ≡ None
    by None is e = is
    by (Some at) is e = elim (slice_get_cases all at).1 [
      | inl there ↦ absurd (none-some (twice there.0) (sym e ∙ ap (option_map twice) there.2))
      | inr past ↦ absurd (let less = repeated_within [] rules at is in let beyond = past.0 in omega (arith, long, less, beyond))
    ]

early_duplicate : (readings : List (Names × Reading)) → early_fault readings ≡ None → duplicate (placed readings) (rules_of readings) ≡ None
unfolding early_fault rules_of
early_duplicate readings none =
    let all = placed readings in
    let rules = rules_in all in
    later_none (too_many_links 0 rules) (duplicate all rules)
    (later_none (missing_group (members (drafts_of all)) (taken (drafts_of all))) (fault_of_rules all rules) (later_none (too_many_commands (length all)) (fault_of_groups all) none))

as_many : (readings : List (Names × Reading)) → length (rules_of readings) ≡ length (placed readings)
unfolding rules_of
as_many readings = length-map (placed readings) (rule_of (members (drafts_of (placed readings))))

pub linked_names : (readings : List (Names × Reading)) (rules : List Rule) → AreLinked readings rules → HaveOwnNames rules
linked_names readings rules linked =
    subst HaveOwnNames (sym linked.are)
    (own_names (rules_of readings) (none_repeats (placed readings) (rules_of readings) (as_many readings) (early_duplicate readings linked.early)))
