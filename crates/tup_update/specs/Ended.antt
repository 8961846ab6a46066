-- What came of the commands of a history (own).
use Rattle.std.specs.Prelude.{◌≡◌, ℕ, List, [], ◌∷◌, ◌++◌, map, Option, None, Some, replicate, slice_get, slice_index_or, slice_set}
use Rattle.std.specs.List.{cons_option, filter_map}
use Rattle.std.specs.Option.{option_map}
use Rattle.tup_access.specs.declared.verdict.Verdict.{Verdict}
use Rattle.tup_rule.specs.declared.rule.Rule.{Rule}
use Rattle.tup_rule.specs.Rule.{label_of, name_of}
use Rattle.tup_core.specs.declared.event.CoreEvent.{CoreEvent}
use Rattle.tup_core.specs.declared.event.CoreEvent.TheVariants.{Claim, Ask, Deny, Finish, Stop}
use Rattle.tup_promise.specs.declared.log.EndedRule.{EndedRule}
use Rattle.tup_promise.specs.declared.stop.Stop.{Stop as WhyStopped}
use Rattle.tup_promise.specs.declared.stop.Stop.TheVariants.{Bad}

-- what a seat claimed last, of a list that has that for each seat
abbrev pub claimed_by : List (Option ℕ) → ℕ → Option ℕ
claimed_by claimed seat = slice_index_or claimed seat None

-- none of the 16 seats has claimed a rule
abbrev pub nothing_claimed : List (Option ℕ)
nothing_claimed = replicate 16 None

-- a command has ended with this verdict, before these
abbrev pub ends_at : Option ℕ → Verdict → List (ℕ × Verdict) → List (ℕ × Verdict)
ends_at number verdict more = cons_option (option_map (λ at. (at, verdict)) number) more

-- The commands that ended, in the order of their ends: the number of each one's rule, which is what its seat claimed last, and its
-- verdict. The list has what each seat had claimed before.
abbrev pub ends_from : List (Option ℕ) → List CoreEvent → List (ℕ × Verdict)
ends_from claimed [] = []
ends_from claimed (Claim seat number ∷ events) = ends_from (slice_set claimed seat (Some number)) events
ends_from claimed (Ask seat text answer ∷ events) = ends_from claimed events
ends_from claimed (Deny seat text verdict ∷ events) = ends_from claimed events
ends_from claimed (Finish seat verdict writes ∷ events) = ends_at (claimed_by claimed seat) verdict (ends_from claimed events)
ends_from claimed (Stop seat cause ∷ events) = ends_from claimed events

-- the same of a whole history
abbrev pub ends : List CoreEvent → List (ℕ × Verdict)
ends events = ends_from nothing_claimed events

-- the numbers of the rules of some ends
abbrev pub numbers : List (ℕ × Verdict) → List ℕ
numbers list = map (λ (end : ℕ × Verdict). end.0) list

-- what is told of a command that ended
abbrev pub told_of : List Rule → ℕ × Verdict → Option EndedRule
told_of rules end = option_map (λ rule. record { rule = name_of rule; label = label_of rule; verdict = end.1 }) (slice_get rules end.0)

-- and of all
abbrev pub told_ends : List Rule → List (ℕ × Verdict) → List EndedRule
told_ends rules list = filter_map (told_of rules) list

-- ---- what a log is told of these ends

-- all of it
abbrev pub TellsAll : List EndedRule → List EndedRule → List EndedRule → Type 0
TellsAll told old new = new ≡ old ++ told

-- a front of it
abbrev pub TellsFront : List EndedRule → List EndedRule → List EndedRule → Type 0
TellsFront told old new = (rest : List EndedRule) × (new ++ rest ≡ old ++ told)

-- what it is told by an update that stopped so: all, but where something else than a bad verdict stopped it
abbrev pub TellsFor : List EndedRule → List EndedRule → List EndedRule → Option WhyStopped → Type 0
TellsFor told old new None = TellsAll told old new
TellsFor told old new (Some (Bad name verdict)) = TellsAll told old new
TellsFor told old new (Some stop) = TellsFront told old new
