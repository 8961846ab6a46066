use Rattle.std.proofs.Common.{◌∙◌, sym}
use Rattle.std.proofs.lemmas.Bool.{false≢true}
use Rattle.tup_why.proofs.checking.leads.Goals as goal

pub returns-then-writes : goal.returns-then-writes
returns-then-writes c = (
  λ t.
      let (rule, planned, wrote) = c.writes.ensures.0 c.if-writes.true in
      let (reader, is_planned, asked) = c.reads.ensures.0 t in
      (rule, reader, planned, wrote, is_planned, asked),
  λ (rule, reader, planned, wrote, is_planned, asked). c.reads.ensures.1 (reader, is_planned, asked),
)

pub returns-else-writes : goal.returns-else-writes
returns-else-writes c = (
  λ t. absurd (false≢true (sym c.if-writes.false ∙ t)),
  λ (rule, reader, planned, wrote, is_planned, asked). c.writes.ensures.1 (rule, planned, wrote),
)
