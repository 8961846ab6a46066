use Rattle.std.proofs.Common.{sym, ap, ◌∙◌}
use Rattle.tup_table.specs.Compact.{size_in}
use Rattle.tup_table.proofs.Sizes.{short_at}
use Rattle.tup_table.proofs.entries.Entries.size_at.Goals as goal

pub put_size-requires : goal.put_size-requires
put_size-requires c = short_at c.args.self.now c.args.key.now c.in-Some.entry.now c.fit.ensures (sym c.in-Some.ensures)

pub returns-in-Some : goal.returns-in-Some
returns-in-Some c = c.put_size.ensures ∙ ap (size_in c.args.key.now) c.in-Some.ensures

pub returns-in-None : goal.returns-in-None
returns-in-None c = ap (size_in c.args.key.now) c.in-None.ensures
