-- The order in which a clean build takes its rules: the first ready one, again and again (own). What is said of rules that
-- were taken by their verdicts alone holds whoever ran their commands.
use Rattle.std.specs.Prelude.{◌≡◌, ℕ, zero, suc, ⊤, if◌then◌else◌, List, [], ◌∷◌, length, Option, None, Some, IsTrue, IsSome, replicate, filter_map, slice_get, slice_set}
use Rattle.std.specs.List.{list_all}
use Rattle.tup_path.specs.Tree.{Tree}
use Rattle.tup_clean.specs.Buildable.{NoneWaitsForItself}
use Rattle.tup_rule.specs.declared.rule.Rule.{Rule}
use Rattle.tup_runner.specs.Next.{Next}
use Rattle.tup_access.specs.declared.verdict.Verdict.{Verdict}
use Rattle.tup_access.specs.declared.verdict.Verdict.TheVariants.{Good}
use Rattle.tup_access.specs.Verdict.{verdict}
use Rattle.tup_clean.specs.Clean.{Build, is_good, first_ready, given, start, clean}

-- a rule that was taken: its place, and the verdict that it came to
abbrev pub Taken : Type 0
Taken = ℕ × Verdict

-- the rules at these places, in this order
abbrev pub rules_taken : List Rule → List Taken → List Rule
rules_taken rules taken = filter_map (λ (one : Taken). slice_get rules one.0) taken

-- ---- by their verdicts alone

-- verdicts to which these were added, one after another
abbrev pub with_verdicts : List (Option Verdict) → List Taken → List (Option Verdict)
with_verdicts verdicts [] = verdicts
with_verdicts verdicts (one ∷ taken) = with_verdicts (slice_set verdicts one.0 (Some one.1)) taken

-- the verdict of each rule once these were taken, and no others
abbrev pub verdicts_of : List Rule → List Taken → List (Option Verdict)
verdicts_of rules taken = with_verdicts (replicate (length rules) None) taken

-- each of these was the first rule that was ready, from these verdicts on
abbrev pub AreTakenFrom : List Rule → List (Option Verdict) → List Taken → Type 0
AreTakenFrom rules verdicts [] = ⊤
AreTakenFrom rules verdicts (one ∷ taken) =
    (first_ready rules verdicts ≡ Some one.0) × AreTakenFrom rules (slice_set verdicts one.0 (Some one.1)) taken

-- each of these was the first rule that was ready
abbrev pub AreTaken : List Rule → List Taken → Type 0
AreTaken rules taken = AreTakenFrom rules (replicate (length rules) None) taken

-- all of these are Good
abbrev pub AllGood : List Taken → Type 0
AllGood taken = IsTrue (list_all (λ (one : Taken). is_good (Some one.1)) taken)

-- each rule was taken, and is Good
abbrev pub AllTaken : List Rule → List Taken → Type 0
AllTaken rules taken = verdicts_of rules taken ≡ replicate (length rules) (Some Good)

-- ---- by what a runner means

-- the rules that a build takes from here on
abbrev pub takes_on : ℕ → Next → List Rule → Build → List Taken
takes_on zero next rules build = []
takes_on (suc steps) next rules build =
    elim (first_ready rules build.verdicts) [
      | None ↦ []
      | Some at ↦ elim (slice_get rules at) [
        | Some rule ↦ (at, (verdict next rules rule build.tree).verdict) ∷ takes_on steps next rules (given next rules build at rule)
        | None ↦ []
      ]
    ]

-- the rules that the clean build of some sources takes
unfoldable pub takes : Next → List Rule → Tree → List Taken
takes next rules sources = takes_on (length rules) next rules (start rules sources)

-- those up to the first that isn't Good
abbrev pub up_to_bad : List Taken → List Taken
up_to_bad [] = []
up_to_bad (one ∷ taken) = one ∷ (if is_good (Some one.1) then up_to_bad taken else [])

-- ---- laws

-- the clean build takes just these, each as the first that is ready, and has their verdicts
abbrev pub TakesInTurn : Type 0
TakesInTurn =
    (next : Next) (rules : List Rule) (sources : Tree)
    → AreTaken rules (takes next rules sources) × (verdicts_of rules (takes next rules sources) ≡ (clean next rules sources).verdicts)

-- where no rule waits for itself, and all that were taken are Good, a rule is ready as long as one is left
abbrev pub SomeIsReady : Type 0
SomeIsReady =
    (rules : List Rule) (taken : List Taken) (at : ℕ) → NoneWaitsForItself rules → AreTaken rules taken → AllGood taken
    → slice_get (verdicts_of rules taken) at ≡ Some None → IsSome (first_ready rules (verdicts_of rules taken))

-- so once none is ready all were taken
abbrev pub AllAreTaken : Type 0
AllAreTaken =
    (rules : List Rule) (taken : List Taken) → NoneWaitsForItself rules → AreTaken rules taken → AllGood taken
    → first_ready rules (verdicts_of rules taken) ≡ None → AllTaken rules taken
