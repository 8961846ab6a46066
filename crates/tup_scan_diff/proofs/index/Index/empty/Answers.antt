use Rattle.std.proofs.Common.{Option, sym, subst}
use Rattle.std.specs.Prelude.{IfSome}
use Rattle.tup_path.specs.Name.{Names}
use Rattle.tup_path.specs.Order.{by_names}
use Rattle.tup_scan_diff.specs.Sets.{Has}
use Rattle.tup_scan_diff.proofs.Indexed.{no_index}
use Rattle.tup_scan_diff.proofs.index.Index.empty.Goals as goal

pub returns-clause-index : goal.returns-clause-index
returns-clause-index c = no_index _ c.new.ensures.lists c.new-2.ensures.empty c.new-3.ensures.empty

pub returns-clause-known : goal.returns-clause-known
returns-clause-known c = subst (λ (last : Option Names). IfSome last (λ dir. Has by_names c.new-3.result dir)) (sym c.new.ensures.last) tt
