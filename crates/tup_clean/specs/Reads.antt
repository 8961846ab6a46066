-- What the view of a command keeps of the paths that its rule declares (own).
use Rattle.std.proofs.Props.{props}
use Rattle.std.specs.Coded.{Coded-set, coded_bool}
use Rattle.tup_rule.specs.declared.rule.Rule.{Rule}
use Rattle.tup_access.specs.Inputs.{AreInputs}
use Rattle.tup_access.specs.declared.inputs.Inputs.{Inputs}

-- that inputs are those of a rule holds in one way only
pub AreInputs-prop : (rule : Rule) (inputs : Inputs) → IsProp (AreInputs rule inputs)
AreInputs-prop rule inputs = let bool = Coded-set coded_bool in hlevel (props, bool)
