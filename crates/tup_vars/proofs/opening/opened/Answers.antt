use Rattle.std.proofs.Common.{◌≡◌, ◌-◌, arith, sym}
use Rattle.tup_vars.proofs.Openings.{opened-at, opened-none, name-IsCharBoundary}
use Rattle.tup_vars.proofs.opening.opened.Goals as goal

pub returns-in_err-at : goal.returns-in_err-at
returns-in_err-at c =
    let none = rw c.as_bytes-bytes.ensures.value at c.in_err-at.ensures in
    rw c.from_residual.ensures (sym (opened-none c.args.text.now none))

pub range_from-requires : goal.range_from-requires
range_from-requires c =
    let found = rw c.as_bytes-bytes.ensures.value at c.in_ok-at.ensures in
    λ _. name-IsCharBoundary c.args.text.now c.in_ok-at.at c.utf8.text found.0 found.1

pub returns : goal.returns
returns c =
    let found = rw c.as_bytes-bytes.ensures.value at c.in_ok-at.ensures in
    let whole : c.in_ok-at.at - 0 ≡ c.in_ok-at.at = omega arith in
    rw (c.range.ensures.value, c.as_bytes-bytes.ensures.value, c.range_from.ensures.value, whole) (sym (opened-at c.args.text.now c.in_ok-at.at found.1 found.2 found.0))
