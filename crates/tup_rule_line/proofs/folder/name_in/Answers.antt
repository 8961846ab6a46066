use Rattle.std.proofs.Common.{sym, ◌∙◌, ap, length}
use Rattle.tup_rule_line.proofs.Folders.{name_in_some, name_in_none}
use Rattle.tup_rule_line.proofs.folder.name_in.Goals as goal

pub returns-in-Some : goal.returns-in-Some
returns-in-Some c =
    let names = c.names.ensures.names in
    c.in_folder.ensures
    ∙ sym (name_in_some c.args.dir.now c.args.path.now c.in-Some.folder.now c.in-Some.name.now (sym names ∙ c.in-Some.ensures.cases.0, c.in-Some.ensures.cases.1 ∙ ap length names))

pub returns-in-None : goal.returns-in-None
returns-in-None c = sym (name_in_none c.args.dir.now c.args.path.now (sym (ap length c.names.ensures.names) ∙ c.in-None.ensures.cases))
