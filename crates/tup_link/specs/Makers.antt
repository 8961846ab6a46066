-- For which rules each rule waits.
use Rattle.std.specs.Prelude.{ℕ, List, map}
use Rattle.tup_rule.specs.declared.rule.Rule.{Rule}
use Rattle.tup_rule.specs.Makers.{producers}

-- for each rule, the makers of the paths that it declares
abbrev pub all_producers : List Rule → List (List ℕ)
all_producers rules = map (producers rules) rules
