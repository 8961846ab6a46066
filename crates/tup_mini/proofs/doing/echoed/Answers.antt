use Rattle.std.proofs.Common.{List, ℕ, ◌++◌, ◌+◌, drop, ap, ◌∙◌}
use Rattle.tup_mini.proofs.Echoing.{behind, first_word, next_word}
use Rattle.tup_mini.proofs.doing.echoed.Goals as goal
use Rattle.tup_mini.proofs.doing.echoed.Goals.{then-at-gt0+in_ok-push, else-at-gt0}

pub loop-at-preserved : goal.loop-at-preserved
loop-at-preserved c =
    let words = c.args.words.now in
    let at = c.loop-at.at in
    let word = c.index-words-at.result in
    let grown = c.in_ok-extend_from_slice.ensures.items ∙ ap (λ (t : List ℕ). c.if-at-gt0.line.items ++ t) (c.as_bytes.ensures.value ∙ c.as_str.ensures.bytes) in
    ap (λ (t : List ℕ). t ++ behind (at + 1) (drop (at + 1) words)) grown ∙ elim c.if-at-gt0.branch [
      | then-at-gt0+in_ok-push w ↦
          rw w.line-is (ap (λ (t : List ℕ). (t ++ word) ++ behind (at + 1) (drop (at + 1) words)) w.in_ok-push.ensures.items
          ∙ next_word words at word c.loop-at.line.items c.loop-at-test.true c.index-words-at.is w.if-at-gt0.true c.loop-at.invariant)
      | else-at-gt0 w ↦
          rw w.line-is (first_word words at word c.loop-at.line.items c.loop-at-test.true c.index-words-at.is w.if-at-gt0.false c.loop-at.invariant)
    ]
