use Rattle.std.proofs.Common.{◌≡◌, ◌-◌, sym, arith}
use Rattle.tup_rule_line.proofs.Folders.{front_some}
use Rattle.tup_rule_line.proofs.folder.front_of.Goals as goal

pub returns : goal.returns
returns c =
    let name = rw c.as_bytes.ensures.value at c.in_ok-slash.ensures.name in
    let at = rw c.as_bytes.ensures.value at c.in_ok-slash.ensures.slash in
    let whole : c.in_ok-slash.slash - 0 ≡ c.in_ok-slash.slash = omega arith in
    rw (c.range.ensures.value, whole) (sym (front_some c.args.word.now c.in_ok-slash.slash at.0 name))
