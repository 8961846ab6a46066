use Rattle.tup_graph.proofs.Printed.{less_printed}
use Rattle.tup_graph.proofs.prints.Prints.edit.Goals as goal

pub returns-in-Remove : goal.returns-in-Remove
returns-in-Remove c = rw c.in-Remove.is (less_printed c.args.nodes.now c.args.self.now c.in-Remove.field-0 c.requires)
