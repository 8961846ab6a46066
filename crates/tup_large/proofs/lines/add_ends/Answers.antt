use Rattle.std.proofs.Common.{◌≡◌, ◌+◌, ◌++◌, ℕ, List, drop, string_bytes, subst}
use Rattle.tup_large.specs.Shown.{line_at, ends_lines}
use Rattle.tup_large.proofs.Ends.{one_ended, one_more}
use Rattle.tup_large.proofs.lines.add_ends.Goals as goal

pub loop-at-preserved : goal.loop-at-preserved
loop-at-preserved c =
    let ends = c.args.ends.now in
    let at = c.loop-at.at in
    let end = c.index-ends-at.result in
    let text = string_bytes c.loop-at.text in
    let whole = string_bytes c.args.text.now ++ ends_lines 0 ends in
    one_more text (line_at at end.status) (ends_lines (at + 1) (drop (at + 1) ends)) whole (string_bytes c.add_end.new.text)
    (subst (λ (more : List ℕ). text ++ more ≡ whole) (one_ended ends at end c.loop-at-test.true c.index-ends-at.is) c.loop-at.invariant) c.in_ok-add_end.ensures
