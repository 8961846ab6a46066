use Rattle.std.proofs.Common.{ap, ◌∙◌}
use Rattle.tup_vars.specs.Table.{look, put}
use Rattle.tup_vars.proofs.Tables.{look-put}
use Rattle.tup_vars.proofs.vars.Vars.set.Goals as goal

pub returns-clause-reads : goal.returns-clause-reads
returns-clause-reads c = λ other.
    let done = c.in_ok-put.ensures.ok ∙ ap (λ all. put all c.as_str-name.result.now c.args.value) c.self.view_is ∙ ap (λ name. put c.args.self.now name c.args.value) c.as_str-name.ensures.bytes in
    ap (λ all. look all other) done ∙ look-put c.args.self.now c.args.name.now c.args.value other
