-- The clean build: a build with no history. It knows the rules and the sources, and nothing of graphs, flags,
-- stamps or threads. From Mike Shal, "Build System Rules and Algorithms" (2009); the order is own.
use Rattle.std.specs.Prelude.{ℕ, zero, suc, Bool, true, false, ◌&&◌, List, [], ◌∷◌, ◌++◌, length, Option, None, Some, position, is_none, replicate, slice_get, slice_set}
use Rattle.std.specs.List.{list_all, zip}
use Rattle.std.specs.FinMap as finite
use Rattle.tup_path.specs.Name.{Names, Content}
use Rattle.tup_path.specs.Tree.{Tree}
use Rattle.tup_rule.specs.declared.rule.Rule.{Rule}
use Rattle.tup_rule.specs.Rule.{maker}
use Rattle.tup_runner.specs.Next.{Next}
use Rattle.tup_access.specs.declared.verdict.Verdict.{Verdict}
use Rattle.tup_access.specs.declared.verdict.Verdict.TheVariants.{Good}
use Rattle.tup_access.specs.Verdict.{verdict}

-- a build under way: the tree so far, and the verdict of each rule that has one
pub record Build : Type 0 where
  pub tree : Tree
  pub verdicts : List (Option Verdict)

-- whether a verdict was given, and is Good
abbrev pub is_good : Option Verdict → Bool
is_good (Some Good) = true
is_good other = false

-- whether the rule at a place has a Good verdict
abbrev pub good_at : List (Option Verdict) → ℕ → Bool
good_at verdicts at = elim (slice_get verdicts at) [ Some given ↦ is_good given | None ↦ false ]

-- whether all declared producers of a rule, over so many steps, are Good: the makers of the paths that it
-- declares, and the declared producers of these
abbrev pub producers_good : ℕ → List Rule → List (Option Verdict) → Rule → Bool
producers_good zero rules verdicts rule = true
producers_good (suc steps) rules verdicts rule =
    list_all (λ path. elim (maker path rules) [
      | None ↦ true
      | Some at ↦ good_at verdicts at && elim (slice_get rules at) [ Some other ↦ producers_good steps rules verdicts other | None ↦ true ]
    ]) (rule.inputs ++ rule.order)

-- the first rule without a verdict whose declared producers are all Good
abbrev pub first_ready : List Rule → List (Option Verdict) → Option ℕ
first_ready rules verdicts =
    position (λ (p : Rule × Option Verdict). is_none p.1 && producers_good (length rules) rules verdicts p.0) (zip rules verdicts)

-- a tree with these files put into it
abbrev pub with_files : Tree → List (Names × Content) → Tree
with_files tree [] = tree
with_files tree (file ∷ files) = with_files (finite.insert tree file.0 file.1) files

-- the rule at a place gets its verdict in the tree so far, and a Good one leaves its files there
abbrev pub given : Next → List Rule → Build → ℕ → Rule → Build
given next rules build at rule =
    let judged = verdict next rules rule build.tree in
    record { tree = with_files build.tree judged.files; verdicts = slice_set build.verdicts at (Some judged.verdict) }

-- the first ready rule is taken, again and again
abbrev pub builds_on : ℕ → Next → List Rule → Build → Build
builds_on zero next rules build = build
builds_on (suc steps) next rules build =
    elim (first_ready rules build.verdicts) [
      | None ↦ build
      | Some at ↦ elim (slice_get rules at) [ Some rule ↦ builds_on steps next rules (given next rules build at rule) | None ↦ build ]
    ]

-- the sources, and no verdict yet
abbrev pub start : List Rule → Tree → Build
start rules sources = record { tree = sources; verdicts = replicate (length rules) None }

-- the clean build of some sources: at most as many steps as there are rules
unfoldable pub clean : Next → List Rule → Tree → Build
clean next rules sources = builds_on (length rules) next rules (start rules sources)

-- the build succeeds where every rule is Good
abbrev pub succeeds : Build → Bool
succeeds build = list_all is_good build.verdicts
