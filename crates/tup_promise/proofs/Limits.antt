-- A limit of linking is told only where it is passed.
use Rattle.std.proofs.Common.{◌≡◌, inl, inr, ℕ, ◌+◌, ◌<◌, ◌==◌, Bool, true, false, if◌then◌else◌, nat_lt, List, [], ◌∷◌, length, Option, None, Some, option_map, option_and_then, slice_get, refl, sym, subst}
use Rattle.std.specs.Bool.{⊤}
use Rattle.std.specs.List.{find}
use Rattle.std.specs.Option.{option_or}
use Rattle.std.proofs.lemmas.Bool.{ltb-true}
use Rattle.tup_path.specs.Name.{Names}
use Rattle.tup_rule.specs.declared.question.Reading.{Reading}
use Rattle.tup_rule.specs.declared.draft.GroupRef.{GroupRef}
use Rattle.tup_rule.specs.declared.rule.Rule.{Rule}
use Rattle.tup_link.specs.declared.fault.LinkFault.{LinkFault}
use Rattle.tup_link.specs.declared.fault.LinkFault.TheVariants as linking
use Rattle.tup_link.specs.declared.fault.What.{What}
use Rattle.tup_link.specs.declared.fault.What.TheVariants.{Commands, Links}
use Rattle.tup_link.specs.Faults.{HasCause, early_fault, fault_in, too_many_commands, too_many_links, missing_group, duplicate, repeated, twice, taken, links}
use Rattle.tup_link.specs.Groups.{members}
use Rattle.tup_link.specs.Linked.{Members, rules_in}
use Rattle.tup_link.specs.Placed.{Placed, placed, drafts_of}
use Rattle.tup_project.specs.Fault.{of_linking}
use Rattle.tup_promise.specs.Cause.{HasCountedCause}
use Rattle.tup_promise.specs.Stopped.{stop_of_project}

-- what passes a limit of linking
abbrev pub Passes : What → ℕ → Type 0
Passes Commands number = 65536 < number
Passes Links number = 4194304 < number

-- a fault that tells of a limit tells of one that is passed
abbrev pub IsTrueOf : LinkFault → Type 0
IsTrueOf (linking.TooMany what number) = Passes what number
IsTrueOf (linking.NoSuchGroup group) = ⊤
IsTrueOf (linking.DuplicateCommand dir file line) = ⊤
IsTrueOf (linking.CircularCommands names) = ⊤
IsTrueOf linking.Memory = ⊤

abbrev pub AllTrue : Option LinkFault → Type 0
AllTrue None = ⊤
AllTrue (Some fault) = IsTrueOf fault

either : (first other : Option LinkFault) → AllTrue first → AllTrue other → AllTrue (option_or first other)
either None other one two = two
either (Some fault) other one two = one

commands_true : (count : ℕ) → AllTrue (too_many_commands count)
commands_true count = by (nat_lt 65536 count) refl
  where
    by : (b : Bool) → nat_lt 65536 count ≡ b → AllTrue (if b then Some (linking.TooMany Commands count) else None)
    by true e = ltb-true 65536 count e
    by false e = tt

links_true : (before : ℕ) (rules : List Rule) → AllTrue (too_many_links before rules)
links_true before [] = tt
links_true before (rule ∷ rules) = either _ _ (by (nat_lt 4194304 (before + links rule)) refl) (links_true (before + links rule) rules)
  where
    by : (b : Bool) → nat_lt 4194304 (before + links rule) ≡ b → AllTrue (if b then Some (linking.TooMany Links (before + links rule)) else None)
    by true e = ltb-true 4194304 (before + links rule) e
    by false e = tt

missing_true : (group_has : Members) (groups : List GroupRef) → AllTrue (missing_group group_has groups)
missing_true group_has groups = by (find (λ group. length (group_has group) == 0) groups)
  where
    by : (found : Option GroupRef) → AllTrue (option_map linking.NoSuchGroup found)
    by None = tt
    by (Some group) = tt

duplicate_true : (all : List Placed) (rules : List Rule) → AllTrue (duplicate all rules)
duplicate_true all rules = by (repeated [] rules)
  where
    twice_true : (found : Option Placed) → AllTrue (option_map twice found)
    twice_true None = tt
    twice_true (Some one) = tt

    by : (at : Option ℕ) → AllTrue (option_and_then (λ place. option_map twice (slice_get all place)) at)
    by None = tt
    by (Some place) = twice_true (slice_get all place)

in_true : (all : List Placed) → AllTrue (fault_in all)
in_true all =
    either _ _ (commands_true (length all))
    (either _ _ (missing_true (members (drafts_of all)) (taken (drafts_of all))) (either _ _ (links_true 0 (rules_in all)) (duplicate_true all (rules_in all))))

early_true : (readings : List (Names × Reading)) → AllTrue (early_fault readings)
unfolding early_fault
early_true readings = in_true (placed readings)

pub cause_true : (readings : List (Names × Reading)) (fault : LinkFault) → HasCause readings fault → IsTrueOf fault
cause_true readings fault (inl none) = subst IsTrueOf (sym none) tt
cause_true readings fault (inr (inl early)) = subst AllTrue early (early_true readings)
cause_true readings fault (inr (inr (none, circular))) = subst IsTrueOf (sym circular.2) tt

-- what linking is refused for is the site's fault never, and passes a limit that it tells of
pub linking_stops : (faults : ℕ) (readings : List (Names × Reading)) (fault : LinkFault) → HasCause readings fault → HasCountedCause faults faults (Some (stop_of_project (of_linking fault)))
linking_stops faults readings (linking.TooMany Commands number) cause = (refl, cause_true readings (linking.TooMany Commands number) cause)
linking_stops faults readings (linking.TooMany Links number) cause = (refl, cause_true readings (linking.TooMany Links number) cause)
linking_stops faults readings (linking.NoSuchGroup group) cause = (refl, tt)
linking_stops faults readings (linking.DuplicateCommand dir file line) cause = (refl, tt)
linking_stops faults readings (linking.CircularCommands names) cause = (refl, tt)
linking_stops faults readings linking.Memory cause = refl
