-- How the files of a site compare with a clean build of its sources.
use Rattle.std.specs.Prelude.{◌≡◌, ◌≢◌, ◌⊎◌, ◌<◌, ⊤, ℕ, Bool, false, ◌&&◌, bytes_eq, if◌then◌else◌, List, [], ◌∷◌, ◌++◌, Option, None, Some, IsTrue, slice_get, Result, Ok, Err}
use Rattle.std.specs.FinMap as finite
use Rattle.std.specs.Ordering.{match_ordering}
use Rattle.std.specs.declared.cmp.Ordering.TheVariants.{Less}
use Rattle.tup_path.specs.Name.{Names, Content}
use Rattle.tup_path.specs.Order.{by_names, same_path}
use Rattle.tup_path.specs.Tree.{Tree}
use Rattle.tup_site.specs.World.{World}
use Rattle.tup_site.specs.declared.fault.SiteFailed.TheVariants.{Fault, TooLarge, Memory}
use Rattle.tup_rule.specs.declared.rule.Rule.{Rule}
use Rattle.tup_rule.specs.declared.rule.RuleName.{RuleName}
use Rattle.tup_rule.specs.Rule.{name_of}
use Rattle.tup_access.specs.declared.verdict.Verdict.{Verdict}
use Rattle.tup_runner.specs.Next.{Next}
use Rattle.tup_clean.specs.Buildable.{IsBuildable}
use Rattle.tup_clean.specs.Clean.{Build, is_good, succeeds}
use Rattle.tup_clean.specs.Ran.{commands, RunsFront}
use Rattle.tup_compare.specs.Holding.{Holding, Shows}
use Rattle.tup_promise.specs.Unopened.{IsDamaged}
use Rattle.tup_compare.specs.declared.compare.Compared.{Compared}
use Rattle.tup_compare.specs.declared.compare.Compared.TheVariants.{Same, Differs}
use Rattle.tup_promise.specs.declared.stop.Stop.{Stop}
use Rattle.tup_promise.specs.declared.stop.Stop.TheVariants.{NoStore, BadStore, Sources, UserFile, Bad, Run, Full, Outside}
use Rattle.tup_promise.specs.Blamed.{HasFileOf}
use Rattle.tup_compare.specs.Sources.{AsksFor, IsRefused, build, sources}

-- two trees differ at a path, and at none before it
pub record DifferFirstAt (one other : Tree) (path : Names) : Type 0 where
  pub differ : finite.get one path ≢ finite.get other path
  pub before : (earlier : Names) → by_names earlier path ≡ Less → finite.get one earlier ≡ finite.get other earlier

-- how a tree compares with another
abbrev pub AreCompared : Tree → Tree → Compared → Type 0
AreCompared one other Same = one ≡ other
AreCompared one other (Differs path) = DifferFirstAt one other path

-- a rule that isn't Good in a build, the first in the order of rules, and its verdict
pub record IsFirstNotGood (rules : List Rule) (verdicts : List (Option Verdict)) (name : RuleName) (verdict : Verdict) : Type 0 where
  pub at : ℕ
  pub rule : Rule
  pub stands : slice_get rules at ≡ Some rule
  pub named : name ≡ name_of rule
  pub given : slice_get verdicts at ≡ Some (Some verdict)
  pub bad : is_good (Some verdict) ≡ false
  pub before : (place : ℕ) (other : Verdict) → place < at → slice_get verdicts place ≡ Some (Some other) → IsTrue (is_good (Some other))

-- the clean build of rules that succeeds compares so with the files of a world
pub record BuildsAlike (next : Next) (w : World) (compared : Compared) : Type 0 where
  pub held : Holding
  pub shows : Shows w held
  pub rules : List Rule
  pub asked : AsksFor held rules
  pub clean : IsTrue (succeeds (build next rules held))
  pub alike : AreCompared held.tree (build next rules held).tree compared

-- this is the first rule that isn't Good in the clean build
pub record BuildsBadly (next : Next) (w : World) (name : RuleName) (verdict : Verdict) : Type 0 where
  pub held : Holding
  pub shows : Shows w held
  pub rules : List Rule
  pub asked : AsksFor held rules
  pub first : IsFirstNotGood rules (build next rules held).verdicts name verdict

-- how the files of a world compare with a clean build, or why they can't be compared
abbrev pub HasCompared : Next → World → Result Compared Stop → Type 0
HasCompared next w (Ok compared) = BuildsAlike next w compared
HasCompared next w (Err (Bad name verdict)) = BuildsBadly next w name verdict
HasCompared next w (Err NoStore) = w.store ≡ []
HasCompared next w (Err (BadStore offset)) = IsDamaged w.store offset
HasCompared next w (Err (Sources fault)) = IsRefused w fault
HasCompared next w (Err (UserFile path written found)) = ⊥
HasCompared next w (Err Run) = ⊤
HasCompared next w (Err Full) = ⊥
HasCompared next w (Err (Outside (TooLarge n))) = HasFileOf n w.tree
HasCompared next w (Err (Outside Fault)) = ⊤
HasCompared next w (Err (Outside Memory)) = ⊤

-- a clean build that succeeds, with its files
pub record BuildsWell (next : Next) (w : World) (files : List (Names × Content)) : Type 0 where
  pub held : Holding
  pub shows : Shows w held
  pub rules : List Rule
  pub asked : AsksFor held rules
  pub buildable : IsBuildable (sources held) rules
  pub clean : IsTrue (succeeds (build next rules held))
  pub are : files ≡ finite.entries (build next rules held).tree

-- the files that it leaves, or why there are none
abbrev pub HasBuilt : Next → World → Result (List (Names × Content)) Stop → Type 0
HasBuilt next w (Ok files) = BuildsWell next w files
HasBuilt next w (Err stop) = HasCompared next w (Err stop)

-- ---- what was run

-- all commands were run in their order, or a front of them, where a build was stopped
abbrev pub RunsBuildOf : List (Names × List ℕ) → List (Names × List ℕ) → List (Names × List ℕ) → Option Stop → Type 0
RunsBuildOf commands old new None = new ≡ old ++ commands
RunsBuildOf commands old new (Some (Bad name verdict)) = new ≡ old ++ commands
RunsBuildOf commands old new (Some stop) = RunsFront commands old new

-- the commands of the clean build of the sources were run so
pub record RunsIt (next : Next) (w : World) (old new : List (Names × List ℕ)) (stopped : Option Stop) : Type 0 where
  pub held : Holding
  pub shows : Shows w held
  pub rules : List Rule
  pub asked : AsksFor held rules
  pub ran : RunsBuildOf (commands next rules (sources held)) old new stopped

-- what was run for a comparison: nothing where there are no rules
abbrev pub RunsToCompare : Next → World → List (Names × List ℕ) → List (Names × List ℕ) → Option Stop → Type 0
RunsToCompare next w old new None = RunsIt next w old new None
RunsToCompare next w old new (Some NoStore) = new ≡ old
RunsToCompare next w old new (Some (BadStore offset)) = new ≡ old
RunsToCompare next w old new (Some (Sources fault)) = new ≡ old
RunsToCompare next w old new (Some (Bad name verdict)) = RunsIt next w old new (Some (Bad name verdict))
RunsToCompare next w old new (Some (UserFile path written found)) = ⊥
RunsToCompare next w old new (Some Run) = RunsIt next w old new (Some Run)
RunsToCompare next w old new (Some Full) = ⊥
RunsToCompare next w old new (Some (Outside failed)) = (new ≡ old) ⊎ RunsIt next w old new (Some (Outside failed))

-- ---- the verdicts of a build

-- a rule with its verdict, where it has one that isn't Good
abbrev pub bad_verdict : Rule → Option Verdict → Option (RuleName × Verdict)
bad_verdict rule None = None
bad_verdict rule (Some verdict) = if is_good (Some verdict) then None else Some (name_of rule, verdict)

-- no rule has a verdict that isn't Good
abbrev pub NoneIsBad : List Rule → List (Option Verdict) → Type 0
NoneIsBad rules verdicts =
    (at : ℕ) (rule : Rule) (verdict : Verdict) → slice_get rules at ≡ Some rule → slice_get verdicts at ≡ Some (Some verdict)
    → IsTrue (is_good (Some verdict))

-- the first rule that isn't Good, or none
abbrev pub FindsNotGood : List Rule → List (Option Verdict) → Option (RuleName × Verdict) → Type 0
FindsNotGood rules verdicts None = NoneIsBad rules verdicts
FindsNotGood rules verdicts (Some bad) = IsFirstNotGood rules verdicts bad.0 bad.1

-- the files of a build in which no rule is bad; the first that is bad stops it
abbrev pub IsGoodBuild : List Rule → Build → Result (List (Names × Content)) Stop → Type 0
IsGoodBuild rules build (Ok files) = NoneIsBad rules build.verdicts × (files ≡ finite.entries build.tree)
IsGoodBuild rules build (Err (Bad name verdict)) = IsFirstNotGood rules build.verdicts name verdict
IsGoodBuild rules build (Err Run) = ⊤
IsGoodBuild rules build (Err (Outside failed)) = failed ≡ Memory
IsGoodBuild rules build (Err other) = ⊥

-- ---- two lists of files

-- the same path with the same content
abbrev pub same_file : Names × Content → Names × Content → Bool
same_file one other = same_path one.0 other.0 && bytes_eq one.1 other.1

-- of two paths the one that comes first
abbrev pub first_of : Names → Names → Names
first_of one other = match_ordering (by_names other one) other one one

-- the path at which two lists of files first differ, which stand in the order of their paths
abbrev pub difference : List (Names × Content) → List (Names × Content) → Option Names
difference [] [] = None
difference (file ∷ one) [] = Some file.0
difference [] (file ∷ other) = Some file.0
difference (here ∷ one) (there ∷ other) = if same_file here there then difference one other else Some (first_of here.0 there.0)

-- a comparison by where two things first differ
abbrev pub compared_at : Option Names → Compared
compared_at None = Same
compared_at (Some path) = Differs path
