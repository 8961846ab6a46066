use Rattle.std.proofs.Common.{◌≡◌, Bool, List, ℕ, cond, option_map, subst, sym, ap, ◌∙◌}
use Rattle.std.specs.Prelude.{OnOk}
use Rattle.std.specs.BTreeSet.{insert_key}
use Rattle.std.specs.Map.Iter.{deref}
use Rattle.tup_path.specs.Order.{by_bytes}
use Rattle.tup_rule_line.proofs.Globs.{one_wanted}
use Rattle.tup_rule_line.proofs.glob_word.add_wanted.Goals as goal

pub returns-then-not-is_wanted : goal.returns-then-not-is_wanted
returns-then-not-is_wanted c =
    let keys = c.args.names.now.keys in
    let name = c.args.name.now in
    sym (one_wanted (option_map deref c.args.glob) keys name ∙ ap (λ (b : Bool). cond b (insert_key by_bytes keys name) keys) (sym c.is_wanted.ensures ∙ c.if-not-is_wanted.true))

pub returns : goal.returns
returns c =
    let keys = c.args.names.now.keys in
    let name = c.args.name.now in
    subst (λ (l : List (List ℕ)). OnOk c.put_name.result (c.put_name.new.names.keys ≡ l))
    (sym (one_wanted (option_map deref c.args.glob) keys name ∙ ap (λ (b : Bool). cond b (insert_key by_bytes keys name) keys) (sym c.is_wanted.ensures ∙ c.if-not-is_wanted.false)))
    c.put_name.ensures
