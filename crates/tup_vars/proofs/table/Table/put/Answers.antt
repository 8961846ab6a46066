use Rattle.std.proofs.Common.{ap, ◌∙◌}
use Rattle.tup_vars.specs.Table.{put, named}
use Rattle.tup_vars.proofs.Tables.{put-named}
use Rattle.tup_vars.proofs.table.Table.put.Goals as goal

pub returns-clause-ok : goal.returns-clause-ok
returns-clause-ok c =
    ap named c.in_ok-insert.ensures.entries ∙ put-named c.in_ok-from_str.field-0 c.args.value c.self.inside.entries.entries
    ∙ ap (λ name. put (named c.self.inside.entries.entries) name c.args.value) c.in_ok-from_str.ensures.ok ∙ ap (λ all. put all c.args.name.now c.args.value) c.self.view_is
