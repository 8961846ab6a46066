use Rattle.std.proofs.Common.{subst}
use Rattle.tup_table.specs.Compact.{EntriesFit}
use Rattle.tup_table.proofs.entries.Entries.fit.Goals as goal

pub returns : goal.returns
returns c = subst EntriesFit c.self.view_is c.self.invariant.1.0
