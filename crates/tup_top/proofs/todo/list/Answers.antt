use Rattle.std.proofs.Common.{rules, inl, inr, refl, subst}
use Rattle.std.specs.Prelude.{ℕ, List}
use Rattle.tup_top.specs.Printed.{Prints}
use Rattle.tup_top.proofs.Causes.{prints_nothing}
use Rattle.tup_top.proofs.todo.list.Goals as goal

pub returns-in-Err-clause-ends : goal.returns-in-Err-clause-ends
returns-in-Err-clause-ends g c = inr (inl refl)

pub returns-in-Err-clause-prints : goal.returns-in-Err-clause-prints
returns-in-Err-clause-prints g c = λ shows. prints_nothing _ _ _ _ _

pub returns-in-Ok-clause-prints : goal.returns-in-Ok-clause-prints
returns-in-Ok-clause-prints g c = λ shows.
    subst (λ (t : List ℕ). Prints c.args.status t (g.K.Sink.faults c.args.out.now) (g.K.Sink.faults c.print.new.out) (g.K.Sink.held c.args.out.now) (g.K.Sink.held c.print.new.out) c.print.result) (search rules)
    (c.print.ensures.prints shows)
