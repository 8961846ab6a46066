use Rattle.std.proofs.Common.{Err, ap, sym, ◌∙◌}
use Rattle.tup_lex.specs.declared.kind.ParseKind.TheVariants.{MissingEndif}
use Rattle.tup_query.specs.Spot.{spot}
use Rattle.tup_rule_line.specs.declared.state.State.{State}
use Rattle.tup_query.proofs.Went.{gives_along, gives_refusal}
use Rattle.tup_tupfile.proofs.Files.{ended-closed, ended-open}
use Rattle.tup_tupfile.proofs.file.ended.Goals as goal

pub returns-in-Ok : goal.returns-in-Ok
returns-in-Ok c =
    let a = c.args in
    ended-closed a.dir.now a.file.now a.along (sym c.end.ensures ∙ c.in-Ok.is)

pub returns-in-Err-MissingEndif : goal.returns-in-Err-MissingEndif
returns-in-Err-MissingEndif c =
    let a = c.args in
    let line = c.in-Err-MissingEndif.line in
    let refused = rw c.new-at.ensures at c.refuse.ensures in
    gives_along _ _ (Err c.refuse.result) (ended-open a.dir.now a.file.now a.along line (sym c.end.ensures ∙ c.in-Err-MissingEndif.is ∙ ap Err c.in-Err-MissingEndif.field-0-is))
    (gives_refusal State (spot a.dir.now a.file.now line) MissingEndif c.refuse.result refused)
