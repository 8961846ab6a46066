-- What linking promises of the rules of a project, and the linking of a language. That a command stands once in its folder is own; that what a rule takes is
-- there is the manual's.
use Rattle.std.specs.Prelude.{◌≡◌, ◌⊎◌, ◌↔◌, ℕ, true, List, Some, IsSome, slice_get}
use Rattle.std.specs.FinMap as finite
use Rattle.tup_path.specs.Name.{Names}
use Rattle.tup_path.specs.Tree.{Tree}
use Rattle.tup_rule.specs.Rule.{declares, is_generated, name_of}
use Rattle.tup_rule.specs.declared.question.Reading.{Reading}
use Rattle.tup_rule.specs.declared.rule.Rule.{Rule}
use Rattle.tup_project.specs.Project.{AreLinked}
use Rattle.tup_graph.specs.Records.{Language}

-- no two rules have one name
abbrev pub HaveOwnNames : List Rule → Type 0
HaveOwnNames rules =
    (number other : ℕ) (rule same : Rule) → slice_get rules number ≡ Some rule → slice_get rules other ≡ Some same → name_of rule ≡ name_of same → number ≡ other

-- each path that a rule declares is a source, or an output of one of the rules
abbrev pub DeclareWhatIsThere : Tree → List Rule → Type 0
DeclareWhatIsThere sources rules =
    (number : ℕ) (rule : Rule) (path : Names) → slice_get rules number ≡ Some rule → declares rule path ≡ true
    → IsSome (finite.get sources path) ⊎ (is_generated rules path ≡ true)

-- the rules that a language links readings to are those of a project
abbrev pub LinksReadings : Language → Type 0
LinksReadings language = (readings : List (Names × Reading)) (rules : List Rule) → (language.linked readings ≡ Some rules) ↔ AreLinked readings rules
