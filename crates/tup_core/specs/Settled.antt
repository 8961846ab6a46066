-- A rule that is settled in a build of the sources (own).
use Rattle.std.specs.Prelude.{◌≡◌, ℕ, true, List, Option, Some, Contains}
use Rattle.std.specs.FinMap as finite
use Rattle.tup_path.specs.Name.{Names, Content}
use Rattle.tup_stamp.specs.declared.Stamp.{Stamp}
use Rattle.tup_stamp.specs.Stamp.{stamp}
use Rattle.tup_rule.specs.declared.rule.Rule.{Rule}
use Rattle.tup_rule.specs.Rule.{writes}
use Rattle.tup_clean.specs.Clean.{Build, good_at}

-- it is Good in the build, and at each of its outputs the files have the stamp of what it leaves there, which is known
pub record IsSettled (known : List Content) (build : Build) (files : Names → Option Stamp) (at : ℕ) (rule : Rule) : Type 0 where
  pub good : good_at build.verdicts at ≡ true
  pub made : (path : Names) → writes rule path ≡ true → (content : Content) × (finite.get build.tree path ≡ Some content) × Contains known content × (files path ≡ Some (stamp content))
