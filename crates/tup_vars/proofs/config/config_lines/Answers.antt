use Rattle.tup_vars.proofs.ConfigLines.{set-IsSet, unset-IsUnset}
use Rattle.tup_vars.proofs.config.config_lines.Goals as goal

pub returns-clause-set : goal.returns-clause-set
returns-clause-set c = set-IsSet

pub returns-clause-unset : goal.returns-clause-unset
returns-clause-unset c = unset-IsUnset
