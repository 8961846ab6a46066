use Rattle.std.proofs.Common.{drop}
use Rattle.tup_proc_runner.specs.Asked.{said_in}
use Rattle.tup_proc_runner.proofs.Following.{SoFar}
use Rattle.tup_proc_runner.proofs.asking.ask_all.Given as goal

abbrev pub invariant-loop-line : goal.invariant-loop-line
invariant-loop-line g l =
    SoFar (said_in l.lines) (said_in (drop l.line-index l.lines)) (λ asks. g.V.View.came l.fn.view asks l.view) (g.V.View.refusal l.view)
    × g.V.View.same l.fn.view l.view
