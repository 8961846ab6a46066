use Rattle.std.proofs.Common.{sym, ◌∙◌, rules}
use Rattle.tup_mini.proofs.Reading.{redirected-yes, redirected-no, redirected-short}
use Rattle.tup_mini.proofs.word.redirected.Goals as goal
use Rattle.tup_mini.proofs.word.redirected.Goals.{in_default-via-then-words-lt2, in_default-via-in-len2-up+else-is_arrow}

pub returns-in_ok-clone-in-len2-up : goal.returns-in_ok-clone-in-len2-up
returns-in_ok-clone-in-len2-up c =
    let whole = redirected-yes c.args.words.now c.arrow-item.result c.to-item.result c.in-len2-up.len_at_least c.arrow-item.is c.to-item.is (sym c.is_arrow.ensures ∙ c.if-is_arrow.true) in
    let same = c.in_ok-to_vec-in-len2-up.ensures.items_if_clones_equal (λ x y e. e) in
    search (rules, whole, same)

pub returns-in_default : goal.returns-in_default
returns-in_default c =
    elim c.in_default.branch [
      | in_default-via-then-words-lt2 w ↦ sym (redirected-short c.args.words.now (search rules))
      | in_default-via-in-len2-up+else-is_arrow w ↦ sym (redirected-no c.args.words.now w.arrow-item.result w.to-item.result w.in-len2-up.len_at_least w.arrow-item.is w.to-item.is (sym w.is_arrow.ensures ∙ w.if-is_arrow.false))
    ]
