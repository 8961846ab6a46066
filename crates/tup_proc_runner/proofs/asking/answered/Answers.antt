use Rattle.tup_runner.specs.Next.{Asks}
use Rattle.tup_proc_runner.proofs.Following.{fitting}
use Rattle.tup_proc_runner.proofs.asking.answered.Goals as goal

pub returns-then-fits-clause-asked : goal.returns-then-fits-clause-asked
returns-then-fits-clause-asked g c =
    fitting c.args.text.now c.args.stamp c.in_ok-answer.answer (λ (asks : Asks). g.V.View.came c.args.view.now asks c.ask.new.self) (g.V.View.refusal c.ask.new.self)
    (c.fits.ensures.0 c.if-fits.true) c.in_ok-answer.ensures.answered c.in_ok-answer.ensures.refuses
