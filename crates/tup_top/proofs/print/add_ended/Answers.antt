use Rattle.std.proofs.Common.{◌≡◌, ◌+◌, ◌++◌, ℕ, List, drop, string_bytes, subst}
use Rattle.tup_top.specs.Lines.{because_line, chain_at, ended_line, ended_lines}
use Rattle.tup_top.proofs.Behind.{one_ended, two_more}
use Rattle.tup_top.proofs.print.add_ended.Goals as goal

pub loop-at-preserved : goal.loop-at-preserved
loop-at-preserved c =
    let ended = c.args.ended.now in
    let chains = c.args.because.now in
    let at = c.loop-at.at in
    let one = c.index-ended-at.result in
    let text = string_bytes c.loop-at.text in
    let whole = string_bytes c.args.text.now ++ ended_lines 0 ended chains in
    two_more text (ended_line one) (because_line (chain_at chains at)) (ended_lines (at + 1) (drop (at + 1) ended) chains) whole (string_bytes c.add_verdict.new.text) (string_bytes c.add_because.new.text)
    (subst (λ (more : List ℕ). text ++ more ≡ whole) (one_ended ended chains at one c.loop-at-test.true c.index-ended-at.is) c.loop-at.invariant) c.in_ok-add_verdict.ensures c.in_ok-add_because.ensures
