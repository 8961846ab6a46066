-- The language of Tupfiles as the store has it (own).
use Rattle.std.specs.Prelude.{ℕ, zero, suc, Bool, true, ◌&&◌, if◌then◌else◌, List, [], ◌∷◌, length, map, Option, None, Some, is_none}
use Rattle.tup_path.specs.Name.{Names}
use Rattle.tup_rule.specs.declared.question.Reading.{Reading}
use Rattle.tup_rule.specs.declared.rule.Rule.{Rule}
use Rattle.tup_access.specs.declared.verdict.Verdict.{Verdict}
use Rattle.tup_access.specs.declared.verdict.Verdict.TheVariants.{Good}
use Rattle.tup_clean.specs.Clean.{producers_good}
use Rattle.tup_link.specs.Faults.{early_fault}
use Rattle.tup_link.specs.Linked.{rules_of}
use Rattle.tup_graph.specs.Records.{Language}
use Rattle.tup_refresh.specs.Language.{next_of}

-- each rule is Good, but the one at a place
abbrev pub all_but : ℕ → List Rule → List (Option Verdict)
all_but at [] = []
all_but zero (rule ∷ rules) = None ∷ map (λ (other : Rule). Some Good) rules
all_but (suc at) (rule ∷ rules) = Some Good ∷ all_but at rules

-- whether none of these rules, which stand from a place on among all, waits for itself
abbrev pub none_waits_from : ℕ → List Rule → List Rule → Bool
none_waits_from at all [] = true
none_waits_from at all (rule ∷ rules) = producers_good (length all) all (all_but at all) rule && none_waits_from (suc at) all rules

-- the rules that readings are linked to; None where linking has a fault
abbrev pub linked_of : List (Names × Reading) → Option (List Rule)
linked_of readings =
    if is_none (early_fault readings) && none_waits_from 0 (rules_of readings) (rules_of readings) then Some (rules_of readings) else None

-- the language of Tupfiles
abbrev pub tupfiles : Language
tupfiles = record { next = next_of; linked = linked_of }
