use Rattle.std.proofs.Common.{◌≡◌, drop}
use Rattle.tup_query.specs.Text.{value_among}
use Rattle.tup_query.proofs.settings.value_among.Given as goal

abbrev pub invariant-loop-asked : goal.invariant-loop-asked
invariant-loop-asked l = value_among (drop l.asked-index l.values) l.name ≡ value_among l.values l.name
