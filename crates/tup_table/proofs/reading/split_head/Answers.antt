use Rattle.std.proofs.Common.{◌++◌, drop, sym, ap, ◌∙◌, take-append-drop}
use Rattle.std.proofs.lemmas.Bool.{false≢true}
use Rattle.tup_table.proofs.Stores.{too_short, other_first}
use Rattle.tup_table.proofs.reading.split_head.Goals as goal

pub returns-in_err-head : goal.returns-in_err-head
returns-in_err-head c = rw c.from_residual.ensures (too_short c.args.bytes.now c.in_err-head.ensures.cases)

pub returns-then-not-begins : goal.returns-then-not-begins
returns-then-not-begins c =
    other_first c.args.bytes.now c.in_ok-head.head.now c.in_ok-head.ensures.cases.1 (λ same. absurd (false≢true (sym c.if-not-begins.true ∙ c.begins.ensures.1 same)))

pub returns : goal.returns
returns c =
    let split = c.in_ok-head.ensures.cases in
    record {
      is_head = record { long = split.3; first = c.begins.ensures.0 c.if-not-begins.false };
      whole = sym (take-append-drop 17 c.args.bytes.now) ∙ ap (λ t. t ++ drop 17 c.args.bytes.now) (sym split.1) ∙ ap (λ t. c.in_ok-head.head.now ++ t) (sym split.2);
    }
