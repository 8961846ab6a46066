-- What the parts of linking come to: their rules, and the first fault.
use Rattle.std.proofs.Common.{◌≡◌, ◌⊎◌, inl, inr, List, map, Option, Some, None, Result, Ok, Err, IfOk, sym, ap, subst, ◌∙◌}
use Rattle.std.specs.Option.{option_or}
use Rattle.tup_path.specs.Name.{Names}
use Rattle.tup_rule.specs.declared.draft.GroupRef.{GroupRef}
use Rattle.tup_rule.specs.declared.question.Reading.{Reading}
use Rattle.tup_rule.specs.declared.rule.Rule.{Rule}
use Rattle.tup_macro.specs.Gifts.{GiftsTo}
use Rattle.tup_link.specs.declared.fault.LinkFault.{LinkFault}
use Rattle.tup_link.specs.declared.fault.LinkFault.TheVariants.{Memory}
use Rattle.tup_link.specs.Placed.{Placed, placed, drafts_of}
use Rattle.tup_link.specs.Groups.{listed, members, HasMembers}
use Rattle.tup_link.specs.Linked.{Members, rule_of, rules_in, rules_of}
use Rattle.tup_link.specs.Faults.{missing_group, taken, too_many_links, duplicate, fault_of_rules, fault_of_groups, fault_in, early_fault, Tells, IsCircular, HasCause}
use Rattle.tup_link.proofs.Finding.{or_none, tells_next, none_of_both}
use Rattle.tup_link.proofs.Gathering.{same_members}

-- what is told behind a check that found nothing
pub tells_behind : {T : Type 0} (r : Result T LinkFault) (a b : Option LinkFault) → a ≡ None → Tells b r → Tells (option_or a b) r
tells_behind (Ok _) a b none tells = or_none a b none ∙ tells
tells_behind (Err told) a b none tells = tells_next a b told none tells

-- ---- rules

pub twice_told : (all : List Placed) (made rules given : List Rule) (told : LinkFault) → rules ≡ made → given ≡ rules → too_many_links 0 made ≡ None → (told ≡ Memory) ⊎ (duplicate all given ≡ Some told) →
    (told ≡ Memory) ⊎ (fault_of_rules all made ≡ Some told)
twice_told all made rules given told are is few (inl memory) = inl memory
twice_told all made rules given told are is few (inr found) = inr (or_none (too_many_links 0 made) (duplicate all made) few ∙ ap (duplicate all) (sym (is ∙ are)) ∙ found)

pub twice_none : (all : List Placed) (made rules given : List Rule) → rules ≡ made → given ≡ rules → too_many_links 0 made ≡ None → duplicate all given ≡ None → fault_of_rules all made ≡ None
twice_none all made rules given are is few none = none_of_both (too_many_links 0 made) (duplicate all made) few (ap (duplicate all) (sym (is ∙ are)) ∙ none)

-- ---- groups

module _ (all : List Placed) (groups : GiftsTo GroupRef) (has : HasMembers (drafts_of all) groups) where
  same : listed groups ≡ members (drafts_of all)
  same = same_members (drafts_of all) groups has

  pub group_told : (told : LinkFault) → (told ≡ Memory) ⊎ (missing_group (listed groups) (taken (drafts_of all)) ≡ Some told) → (told ≡ Memory) ⊎ (fault_of_groups all ≡ Some told)
  group_told told (inl memory) = inl memory
  group_told told (inr found) = inr (ap (λ (o : Option LinkFault). option_or o (fault_of_rules all (rules_in all))) (ap (λ (h : Members). missing_group h (taken (drafts_of all))) (sym same) ∙ found))

  pub grouped_rules : (r : Result (List Rule) LinkFault) → IfOk r (λ rules. rules ≡ map (rule_of (listed groups)) all) → IfOk r (λ rules. rules ≡ rules_in all)
  grouped_rules (Ok rules) are = are ∙ ap (λ (h : Members). map (rule_of h) all) same
  grouped_rules (Err _) are = tt

  pub grouped_fault : (r : Result (List Rule) LinkFault) → missing_group (listed groups) (taken (drafts_of all)) ≡ None → Tells (fault_of_rules all (map (rule_of (listed groups)) all)) r → Tells (fault_of_groups all) r
  grouped_fault r none tells =
      tells_behind r (missing_group (members (drafts_of all)) (taken (drafts_of all))) (fault_of_rules all (rules_in all)) (ap (λ (h : Members). missing_group h (taken (drafts_of all))) (sym same) ∙ none)
      (subst (λ (h : Members). Tells (fault_of_rules all (map (rule_of h) all)) r) same tells)

-- ---- readings

module _ (readings : List (Names × Reading)) (all : List Placed) (are : all ≡ placed readings) where
  pub early_is : fault_in all ≡ early_fault readings
  unfolding early_fault
  early_is = ap fault_in are

  pub rules_are : (rules : List Rule) → rules ≡ rules_in all → rules ≡ rules_of readings
  unfolding rules_of
  rules_are rules is = is ∙ ap rules_in are

  pub early_none : fault_in all ≡ None → early_fault readings ≡ None
  early_none none = sym early_is ∙ none

  pub cause_early : (told : LinkFault) → (told ≡ Memory) ⊎ (fault_in all ≡ Some told) → HasCause readings told
  cause_early told (inl memory) = inl memory
  cause_early told (inr found) = inr (inl (sym early_is ∙ found))

  pub cause_circle : (rules given : List Rule) (told : LinkFault) → fault_in all ≡ None → rules ≡ rules_in all → given ≡ rules → (told ≡ Memory) ⊎ IsCircular given told → HasCause readings told
  cause_circle rules given told none is same_rules (inl memory) = inl memory
  cause_circle rules given told none is same_rules (inr circular) =
      inr (inr (early_none none, subst (λ (l : List Rule). IsCircular l told) (same_rules ∙ rules_are rules is) circular))
