use Rattle.tup_mini.specs.Part.{ask_on}
use Rattle.tup_mini.specs.Through.{GoesOn}
use Rattle.tup_mini.proofs.kept.ask_on.Given as goal

abbrev pub invariant-loop : goal.invariant-loop
invariant-loop g l = GoesOn g.V.View.came g.V.View.same g.V.View.refusal l.fn.view l.view (ask_on l.text) (ask_on l.text)
