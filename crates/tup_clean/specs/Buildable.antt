-- A project whose rules can be built.
use Rattle.std.specs.Prelude.{◌≡◌, ◌≢◌, ℕ, List, [], None, Some, slice_get, IsSome, Contains}
use Rattle.std.specs.FinMap as finite
use Rattle.std.specs.List.{IsDistinct}
use Rattle.tup_path.specs.Name.{Names}
use Rattle.tup_path.specs.Order.{same_path}
use Rattle.tup_path.specs.Tree.{Tree, IsBelow}
use Rattle.tup_rule.specs.declared.rule.Rule.{Rule}
use Rattle.tup_rule.specs.Producer.{DeclaredProducer}

-- a path is an output of the rule at a place
abbrev pub IsOutputAt : List Rule → ℕ → Names → Type 0
IsOutputAt rules at path = (rule : Rule) × (slice_get rules at ≡ Some rule) × Contains rule.outputs path

-- no rule waits for itself, over whatever rules between
abbrev pub NoneWaitsForItself : List Rule → Type 0
NoneWaitsForItself rules = (at : ℕ) (rule : Rule) → slice_get rules at ≡ Some rule → DeclaredProducer rules rule at → ⊥

-- what the reading of a project promises of its rules
pub record IsBuildable (sources : Tree) (rules : List Rule) : Type 0 where
  -- no output is the top folder
  pub not_top : (at : ℕ) (path : Names) → IsOutputAt rules at path → path ≢ []
  -- no rule names an output twice
  pub once : (at : ℕ) (rule : Rule) → slice_get rules at ≡ Some rule → IsDistinct same_path rule.outputs
  -- no output is a source, and no path is an output of two rules
  pub no_source : (at : ℕ) (path : Names) → IsOutputAt rules at path → finite.get sources path ≡ None
  pub one_maker : (at other : ℕ) (path : Names) → IsOutputAt rules at path → IsOutputAt rules other path → at ≡ other
  -- no output stands where a folder has to be, nor below a file
  pub not_above_source : (at : ℕ) (path file : Names) → IsOutputAt rules at path → IsSome (finite.get sources file) → IsBelow path file → ⊥
  pub not_below_source : (at : ℕ) (path file : Names) → IsOutputAt rules at path → IsSome (finite.get sources file) → IsBelow file path → ⊥
  pub not_below_output : (at other : ℕ) (path file : Names) → IsOutputAt rules at path → IsOutputAt rules other file → IsBelow file path → ⊥
  pub none_waits : NoneWaitsForItself rules
