use Rattle.std.proofs.Common.{◌≡◌, ◌++◌, length, IsUtf8}
use Rattle.tup_vars.specs.Asked.{setting_names}
use Rattle.tup_vars.proofs.asked.setting_names.Given as goal

abbrev pub invariant-parts : goal.invariant-parts
invariant-parts l = (setting_names l.fn.text ≡ l.names ++ setting_names l.rest) × IsUtf8 l.rest

abbrev pub decreases-parts : goal.decreases-parts
decreases-parts l = length l.rest
