use Rattle.std.proofs.Common.{ap, ◌∙◌}
use Rattle.tup_vars.specs.Table.{look}
use Rattle.tup_vars.proofs.Tables.{look-named}
use Rattle.tup_vars.proofs.table.Table.get.Goals as goal

pub returns : goal.returns
returns c = c.get.ensures.value ∙ look-named c.args.name.now c.self.inside.entries.entries ∙ ap (λ all. look all c.args.name.now) c.self.view_is
