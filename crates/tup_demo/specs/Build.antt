-- What the small project of a demo comes to (own).
use Rattle.std.specs.Prelude.{false, List, [], ◌∷◌, None, Some, codes}
use Rattle.std.specs.FinMap as finite
use Rattle.tup_path.specs.Tree.{Tree}
use Rattle.tup_rule.specs.declared.rule.Rule.{Rule}
use Rattle.tup_access.specs.declared.verdict.Verdict.TheVariants.{Good}
use Rattle.tup_clean.specs.Clean.{Build}
use Rattle.tup_demo.specs.Project.{demo_source, demo_tree}

-- its one rule
abbrev pub demo_rule : Rule
demo_rule = record {
  dir = [];
  text = codes "cp a b";
  display = None;
  compare = false;
  inputs = (codes "a" ∷ []) ∷ [];
  order = [];
  outputs = (codes "b" ∷ []) ∷ [];
}

-- its rules: this one
abbrev pub demo_rules : List Rule
demo_rules = demo_rule ∷ []

-- its files, and `b`, which holds what `a` holds
abbrev pub demo_built : Tree
demo_built = finite.insert demo_tree (codes "b" ∷ []) demo_source

-- its clean build
abbrev pub demo_build : Build
demo_build = record { tree = demo_built; verdicts = Some Good ∷ [] }
