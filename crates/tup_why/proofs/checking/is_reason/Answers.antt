use Rattle.std.proofs.Common.{inl}
use Rattle.std.specs.FinMap as finite
use Rattle.tup_why.proofs.Checks.{reason_unless}
use Rattle.tup_why.proofs.checking.is_reason.Goals as goal

pub returns-then-declares : goal.returns-then-declares
returns-then-declares c = (λ on. inl on, λ _. c.if-declares.true)

pub returns-else-declares : goal.returns-else-declares
returns-else-declares c = reason_unless c.is_recorded.result (finite.get c.args.nodes.now.runs c.args.number) c.args.declares c.if-declares.false c.is_recorded.ensures.yes c.is_recorded.ensures.no
