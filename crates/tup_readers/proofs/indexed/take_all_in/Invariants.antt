use Rattle.std.proofs.Common.{◌≡◌}
use Rattle.tup_graph.specs.Edits.{edited_by}
use Rattle.tup_graph.specs.Prints.{HasPrints}
use Rattle.tup_readers.specs.Suspects.{AreSuspects}
use Rattle.tup_readers.proofs.indexed.take_all_in.Given as goal

abbrev pub invariant-loop-edit : goal.invariant-loop-edit
invariant-loop-edit l = (l.nodes ≡ edited_by l.fn.before l.yielded) × HasPrints l.nodes l.prints × AreSuspects l.nodes.seen l.nodes.runs l.suspects
