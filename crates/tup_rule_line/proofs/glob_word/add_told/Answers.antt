use Rattle.std.proofs.Common.{Bool, Some, cond, sym, ap, ◌∙◌}
use Rattle.std.specs.BTreeSet.{insert_key}
use Rattle.tup_path.specs.Order.{by_bytes}
use Rattle.tup_rule_line.proofs.Globs.{one_wanted}
use Rattle.tup_rule_line.proofs.glob_word.add_told.Goals as goal

pub returns-then-not-matches : goal.returns-then-not-matches
returns-then-not-matches c =
    let keys = c.args.names.now.keys in
    let name = c.args.name in
    sym (one_wanted (Some c.args.glob.now) keys name ∙ ap (λ (b : Bool). cond b (insert_key by_bytes keys name) keys) (sym c.matches.ensures.value ∙ c.if-not-matches.true))

pub returns : goal.returns
returns c =
    let keys = c.args.names.now.keys in
    let name = c.args.name in
    c.in_ok-insert.ensures.keys
    ∙ sym (one_wanted (Some c.args.glob.now) keys name ∙ ap (λ (b : Bool). cond b (insert_key by_bytes keys name) keys) (sym c.matches.ensures.value ∙ c.if-not-matches.false))
