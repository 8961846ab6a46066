use Rattle.tup_graph.proofs.Printed.{none_printed}
use Rattle.tup_graph.proofs.prints.Prints.new.Goals as goal

pub returns : goal.returns
returns c = none_printed (record { named = c.in_ok-new.field-0; recorded = c.in_ok-new-2.field-0 })
