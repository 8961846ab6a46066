use Rattle.std.proofs.Common.{sym, ap, ◌∙◌, length}
use Rattle.tup_rule_line.specs.Output.{says_what_to_build}
use Rattle.tup_rule_line.proofs.Folders.{reserved_some, reserved_none}
use Rattle.tup_rule_line.proofs.output.is_reserved.Goals as goal

pub returns-in-Some : goal.returns-in-Some
returns-in-Some c =
    let names = c.names.ensures.names in
    c.says_what_to_build.ensures ∙ ap (says_what_to_build c.is_empty.result) c.as_str.ensures.bytes ∙ ap (λ top. says_what_to_build top c.in-Some.name.now) c.is_empty.ensures
    ∙ sym (reserved_some c.args.path.now c.in-Some.folder.now c.in-Some.name.now (sym names ∙ c.in-Some.ensures.cases.0, c.in-Some.ensures.cases.1 ∙ ap length names))

pub returns-in-None : goal.returns-in-None
returns-in-None c = sym (reserved_none c.args.path.now (sym (ap length c.names.ensures.names) ∙ c.in-None.ensures.cases))
