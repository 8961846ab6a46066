use Rattle.std.proofs.Common.{◌≡◌, true}
use Rattle.std.specs.FinMap as finite
use Rattle.tup_path.specs.Order.{by_names}
use Rattle.tup_board_rows.proofs.clean.unmade.Given as goal

abbrev pub invariant-loop-path : goal.invariant-loop-path
invariant-loop-path l = finite.is_sorted by_names l.contents.entries ≡ true
