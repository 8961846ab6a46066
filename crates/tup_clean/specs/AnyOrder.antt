-- A clean build in whatever order its rules are taken, and what is left without an order (own).
use Rattle.std.specs.Prelude.{◌≡◌, ℕ, true, false, List, [], ◌∷◌, length, Option, None, Some, slice_get}
use Rattle.std.specs.Bool.{Decides}
use Rattle.std.specs.FinMap as finite
use Rattle.tup_path.specs.Name.{Names}
use Rattle.tup_path.specs.Order.{by_names}
use Rattle.tup_path.specs.Tree.{Tree}
use Rattle.tup_rule.specs.declared.rule.Rule.{Rule}
use Rattle.tup_rule.specs.Rule.{writes}
use Rattle.tup_rule.specs.Producer.{DeclaredProducer}
use Rattle.tup_runner.specs.Next.{Next}
use Rattle.tup_access.specs.declared.verdict.Verdict.{Verdict}
use Rattle.tup_access.specs.Verdict.{verdict}
use Rattle.tup_clean.specs.Clean.{Build, good_at, producers_good, given, start, clean}

-- no path is an output of two rules
abbrev pub MakeApart : List Rule → Type 0
MakeApart rules =
    (at other : ℕ) (rule another : Rule) (path : Names) → slice_get rules at ≡ Some rule → slice_get rules other ≡ Some another
    → writes rule path ≡ true → writes another path ≡ true → at ≡ other

-- all declared producers of a rule are Good
abbrev pub AreProducersGood : List Rule → List (Option Verdict) → Rule → Type 0
AreProducersGood rules verdicts rule = (at : ℕ) → DeclaredProducer rules rule at → good_at verdicts at ≡ true

-- a rule may be taken: it has no verdict, and all its declared producers are Good
pub record MayBeTaken (rules : List Rule) (build : Build) (at : ℕ) (rule : Rule) : Type 0 where
  pub here : slice_get rules at ≡ Some rule
  pub untaken : slice_get build.verdicts at ≡ Some None
  pub producers : AreProducersGood rules build.verdicts rule

-- a build comes out of another by taking the rules at these places, one after another, each where it may be
abbrev pub IsBuiltBy : Next → List Rule → Build → List ℕ → Build → Type 0
IsBuiltBy next rules build [] end = end ≡ build
IsBuiltBy next rules build (at ∷ order) end =
    (rule : Rule) × MayBeTaken rules build at rule × IsBuiltBy next rules (given next rules build at rule) order end

-- a build is over where no rule may be taken any more
abbrev pub IsOver : List Rule → Build → Type 0
IsOver rules build = (at : ℕ) (rule : Rule) → MayBeTaken rules build at rule → ⊥

-- what a build is that is over, with no word of an order
pub record IsWhole (next : Next) (rules : List Rule) (sources : Tree) (build : Build) : Type 0 where
  pub many : length build.verdicts ≡ length rules
  -- just the rules whose declared producers are all Good have a verdict: the one over the tree that is left
  pub taken : (at : ℕ) (rule : Rule) → slice_get rules at ≡ Some rule → AreProducersGood rules build.verdicts rule
      → slice_get build.verdicts at ≡ Some (Some (verdict next rules rule build.tree).verdict)
  pub ready : (at : ℕ) (rule : Rule) (outcome : Verdict) → slice_get rules at ≡ Some rule → slice_get build.verdicts at ≡ Some (Some outcome)
      → AreProducersGood rules build.verdicts rule
  -- the tree has what the Good rules leave in it, and elsewhere the sources
  pub made : (at : ℕ) (rule : Rule) (path : Names) → slice_get rules at ≡ Some rule → good_at build.verdicts at ≡ true → writes rule path ≡ true
      → finite.get build.tree path ≡ finite.find by_names path (verdict next rules rule build.tree).files
  pub elsewhere : (path : Names)
      → ((at : ℕ) (rule : Rule) → slice_get rules at ≡ Some rule → writes rule path ≡ true → good_at build.verdicts at ≡ false)
      → finite.get build.tree path ≡ finite.get sources path

-- in whatever order the ready rules are taken, the same is left: what the clean build is
abbrev pub AnyOrder : Type 0
AnyOrder =
    (next : Next) (rules : List Rule) (sources : Tree) (order : List ℕ) (end : Build) → MakeApart rules
    → IsBuiltBy next rules (start rules sources) order end → IsOver rules end → end ≡ clean next rules sources

-- the clean build is one of them
abbrev pub SomeOrder : Type 0
SomeOrder =
    (next : Next) (rules : List Rule) (sources : Tree)
    → (order : List ℕ) × IsBuiltBy next rules (start rules sources) order (clean next rules sources) × IsOver rules (clean next rules sources)

-- what the clean build is with no word of an order
abbrev pub NoOrder : Type 0
NoOrder = (next : Next) (rules : List Rule) (sources : Tree) → MakeApart rules → IsWhole next rules sources (clean next rules sources)

-- the test that counts its steps decides whether all declared producers of a rule are Good
abbrev pub CountedTest : Type 0
CountedTest = (rules : List Rule) (verdicts : List (Option Verdict)) (rule : Rule) → Decides (producers_good (length rules) rules verdicts rule) (AreProducersGood rules verdicts rule)
