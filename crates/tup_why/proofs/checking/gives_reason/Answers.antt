use Rattle.tup_why.proofs.Checks.{else_neither, then_both}
use Rattle.tup_why.proofs.checking.gives_reason.Goals as goal

pub returns-then-writes_at : goal.returns-then-writes_at
returns-then-writes_at c = then_both c.is_reason.result (c.writes_at.ensures.0 c.if-writes_at.true) c.is_reason.ensures

pub returns-else-writes_at : goal.returns-else-writes_at
returns-else-writes_at c = else_neither c.writes_at.result c.if-writes_at.false c.writes_at.ensures
