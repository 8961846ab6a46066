use Rattle.std.proofs.Common.{ap, ◌∙◌}
use Rattle.tup_table.specs.Compact.{size_of}
use Rattle.tup_table.proofs.entries.Entries.size.Goals as goal

pub returns : goal.returns
returns c = (c.self.invariant.1.1 ∙ ap size_of c.self.view_is, c.self.invariant.1.2)
