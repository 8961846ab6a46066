use Rattle.std.proofs.Common.{◌≡◌, List, ℕ, [], Option, None, Some, fold, option_map, subst, sym, ap, ◌∙◌}
use Rattle.std.specs.Prelude.{OnOk}
use Rattle.std.specs.BTreeSet.{insert_key}
use Rattle.std.specs.List.{cons_option}
use Rattle.std.specs.Map.Iter.{deref}
use Rattle.tup_path.specs.Order.{by_bytes}
use Rattle.tup_rule_line.specs.Folder.{name_in}
use Rattle.tup_rule_line.specs.Glob.{wanted}
use Rattle.tup_rule_line.proofs.Globs.{none_wanted}
use Rattle.tup_rule_line.proofs.glob_word.add_name.Goals as goal

pub returns-in-Some : goal.returns-in-Some
returns-in-Some c =
    let keys = c.args.names.now.keys in
    let glob = option_map deref c.args.glob in
    let there : Some c.in-Some.name.now ≡ name_in c.args.dir.now c.args.path.now = sym (ap (option_map deref) c.in-Some.is) ∙ c.name_in.ensures in
    subst (λ (found : Option (List ℕ)). OnOk c.add_wanted.result (c.add_wanted.new.names.keys ≡ fold (insert_key by_bytes) keys (wanted glob (cons_option found [])))) there c.add_wanted.ensures

pub returns-in-None : goal.returns-in-None
returns-in-None c =
    let keys = c.args.names.now.keys in
    let glob = option_map deref c.args.glob in
    let gone : None ≡ name_in c.args.dir.now c.args.path.now = sym (ap (option_map deref) c.in-None.is) ∙ c.name_in.ensures in
    subst (λ (found : Option (List ℕ)). keys ≡ fold (insert_key by_bytes) keys (wanted glob (cons_option found []))) gone (sym (none_wanted glob keys))
