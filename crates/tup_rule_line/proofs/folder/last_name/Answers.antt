use Rattle.std.proofs.Common.{arith}
use Rattle.std.proofs.lemmas.Str.{IsCharBoundary-after_ascii}
use Rattle.tup_rule_line.proofs.folder.last_name.Goals as goal

pub range_from-requires : goal.range_from-requires
range_from-requires c =
    let at = rw c.as_bytes.ensures.value at c.in-Some.ensures.slash in
    λ _. IsCharBoundary-after_ascii c.args.word.now c.in-Some.slash c.utf8.word at.0 (omega (arith, at.1))
