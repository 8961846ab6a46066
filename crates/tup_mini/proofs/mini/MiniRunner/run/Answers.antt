use Rattle.std.proofs.Common.{List, true, ◌∙◌, subst}
use Rattle.tup_runner.specs.Run.{RunsAs}
use Rattle.tup_mini.specs.declared.step.MiniStep.{MiniStep}
use Rattle.tup_mini.specs.Means.{runs_next, mini_next}
use Rattle.tup_mini.proofs.mini.MiniRunner.run.Goals as goal

pub returns-clause-means : goal.returns-clause-means
unfolding mini_next
returns-clause-means g c =
    subst (λ (s : List MiniStep). RunsAs true (runs_next c.args.dir.now s) (λ asks. g.V.View.came c.args.view.now asks c.follow.new.view) (g.V.View.refusal c.follow.new.view) c.follow.result)
    (c.deref.ensures.value ∙ c.in_ok-steps.ensures) c.follow.ensures.means
