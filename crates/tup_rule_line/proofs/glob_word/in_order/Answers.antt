use Rattle.std.proofs.Common.{List, ℕ, [], ◌∷◌, Some, fold, sym, ap, ◌∙◌}
use Rattle.std.specs.BTreeSet.{insert_key}
use Rattle.tup_path.specs.Order.{by_bytes}
use Rattle.tup_rule_line.specs.Glob.{wanted}
use Rattle.tup_rule_line.proofs.Globs.{in_order-more}
use Rattle.tup_rule_line.proofs.glob_word.in_order.Goals as goal

pub loop-name-preserved : goal.loop-name-preserved
loop-name-preserved c =
    let glob = Some c.args.glob.now in
    c.in_ok-add_told.ensures
    ∙ ap (λ (names : List (List ℕ)). fold (insert_key by_bytes) names (wanted glob (c.in-Some.name ∷ []))) c.loop-name.invariant
    ∙ sym (in_order-more glob c.loop-name.yielded (c.in-Some.name ∷ []))
