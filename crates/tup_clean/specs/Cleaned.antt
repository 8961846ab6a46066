-- What the call for a clean build gives.
use Rattle.std.specs.Prelude.{◌≡◌, List, Option, length}
use Rattle.std.specs.FinMap as finite
use Rattle.tup_path.specs.Name.{Names, Content}
use Rattle.tup_path.specs.Tree.{Tree}
use Rattle.tup_rule.specs.declared.rule.Rule.{Rule}
use Rattle.tup_runner.specs.Next.{Next}
use Rattle.tup_access.specs.declared.verdict.Verdict.{Verdict}
use Rattle.tup_clean.specs.declared.Cleaned.{Cleaned}
use Rattle.tup_clean.specs.Clean.{Build, builds_on, clean}

-- the clean build of these files: its tree in the order of paths, and the verdict of each rule
pub record IsCleaned (next : Next) (rules : List Rule) (sources : List (Names × Content)) (cleaned : Cleaned) : Type 0 where
  pub tree : cleaned.tree ≡ finite.entries (clean next rules (finite.from_sorted sources)).tree
  pub verdicts : cleaned.verdicts ≡ (clean next rules (finite.from_sorted sources)).verdicts

-- a build, by its tree and its verdicts
abbrev pub build : Tree → List (Option Verdict) → Build
build tree verdicts = record { tree = tree; verdicts = verdicts }

-- a build that goes on to its end
abbrev pub builds_all : Next → List Rule → Build → Build
builds_all next rules old = builds_on (length rules) next rules old
