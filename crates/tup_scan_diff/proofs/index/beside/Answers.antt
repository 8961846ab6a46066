use Rattle.std.proofs.Common.{◌∙◌, sym}
use Rattle.std.specs.Prelude.{codes}
use Rattle.std.proofs.lemmas.Bool.{true≢false}
use Rattle.tup_path.proofs.Same.{same_bytes-decides}
use Rattle.tup_scan_diff.proofs.index.beside.Goals as goal

pub returns : goal.returns
returns c = (
  c.in-Some.ensures,
  λ named. true≢false (sym ((same_bytes-decides c.as_str.result.now (codes "Tupfile")).1 (c.as_str.ensures.bytes ∙ named)) ∙ sym c.eq.ensures ∙ c.if-eq.false),
)
