use Rattle.std.proofs.Common.{List, ℕ, Some, fold, sym, ap, ◌∙◌}
use Rattle.std.specs.BTreeSet.{insert_key}
use Rattle.tup_path.specs.Order.{by_bytes}
use Rattle.tup_rule_line.specs.State.{made_by}
use Rattle.tup_rule_line.specs.Glob.{names_among, wanted}
use Rattle.tup_rule_line.proofs.Globs.{in_order-more}
use Rattle.tup_rule_line.proofs.glob_word.matching_names.Goals as goal

pub returns : goal.returns
returns c =
    let a = c.args in
    (rw c.as_slice.ensures at c.in_ok-add_outputs.ensures)
    ∙ ap (λ (names : List (List ℕ)). fold (insert_key by_bytes) names (wanted (Some a.glob.now) (names_among a.dir.now (made_by a.drafts.now)))) c.in_ok-names.ensures
    ∙ sym (in_order-more (Some a.glob.now) a.told (names_among a.dir.now (made_by a.drafts.now)))
