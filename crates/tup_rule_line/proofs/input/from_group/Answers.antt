use Rattle.std.proofs.Common.{◌≡◌, Ok, ap, ◌∙◌, refl}
use Rattle.std.proofs.lemmas.Result.{err_from_is_err_and}
use Rattle.tup_lex.specs.declared.kind.ParseKind.TheVariants.{MissingInput}
use Rattle.tup_query.specs.Reads.{gives}
use Rattle.tup_rule_line.specs.Folder.{led_to_folder, group_in}
use Rattle.tup_rule_line.specs.Found.{one_group}
use Rattle.tup_rule_line.specs.Input.{from_group}
use Rattle.tup_query.proofs.Went.{gives_then, gives_err}
use Rattle.tup_rule_line.proofs.input.from_group.Goals as goal

pub returns-in_err-dir : goal.returns-in_err-dir
unfolding from_group
returns-in_err-dir c =
    let a = c.args in
    let p = err_from_is_err_and c.from_residual.result c.from_residual.ensures.1 in
    rw (p.1, p.2) (gives_err (led_to_folder a.at.now MissingInput a.word.now) (λ dir. gives (one_group (group_in dir a.word.now))) _ c.in_err-dir.ensures)

pub returns : goal.returns
unfolding from_group
returns c =
    let a = c.args in
    let e : c.in_ok-one_group.field-0 ≡ one_group (group_in c.in_ok-dir.dir a.word.now) = c.in_ok-one_group.ensures ∙ ap one_group c.in_ok-group.ensures in
    rw e (gives_then (led_to_folder a.at.now MissingInput a.word.now) (λ dir. gives (one_group (group_in dir a.word.now))) c.in_ok-dir.dir (Ok (one_group (group_in c.in_ok-dir.dir a.word.now))) c.in_ok-dir.ensures refl)
