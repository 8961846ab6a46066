-- The outputs of all rules, as the code of a core knows them (own).
use Rattle.std.specs.Prelude.{ℕ, if◌then◌else◌, List, None, Some}
use Rattle.tup_path.specs.Name.{Names}
use Rattle.tup_rule.specs.declared.rule.Rule.{Rule}
use Rattle.tup_access.specs.Access.{may_read}
use Rattle.tup_access.specs.Generated.{IsGenerated}
use Rattle.tup_access.specs.declared.verdict.Verdict.TheVariants.{IllegalRead}
use Rattle.tup_access.specs.declared.verdict.Access.{Access}
use Rattle.tup_access.specs.declared.verdict.Access.TheVariants.{Yes, No}
use Rattle.tup_core.specs.declared.outputs.Outputs.{Outputs}

-- where there is a set, it has just the outputs of these rules
abbrev pub AreOutputs : List Rule → Outputs → Type 0
AreOutputs rules outputs = elim outputs.set [ Some set ↦ IsGenerated rules set | None ↦ Unit {0} ]

-- what becomes of an ask that isn't one too many, and whose text names this path
abbrev pub access_to_path : List Rule → Rule → List ℕ → Names → Access
access_to_path rules rule text path = if may_read rules rule path then Yes path else No (IllegalRead text)
