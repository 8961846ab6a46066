use Rattle.std.proofs.Common.{◌≡◌, None, option_map, ap, sym, ◌∙◌, rules}
use Rattle.tup_rule_line.specs.Folder.{front_of}
use Rattle.tup_rule_line.proofs.Folders.{folder_none}
use Rattle.tup_rule_line.proofs.folder.led_to_folder.Goals as goal

pub returns-in_ok-clone-in-None : goal.returns-in_ok-clone-in-None
returns-in_ok-clone-in-None c =
    let none : front_of c.args.word.now ≡ None = sym c.front_of.ensures ∙ ap (option_map (λ front. front.now)) c.in-None.is in
    let same : c.in_ok-clone-in-None.field-0 ≡ c.args.at.now.dir = search rules in
    folder_none c.args.at.now c.args.kind c.args.word.now c.in_ok-clone-in-None.field-0 none same
