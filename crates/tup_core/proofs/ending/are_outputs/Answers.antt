use Rattle.std.proofs.Common.{◌∙◌, sym, refl, arith}
use Rattle.std.proofs.lemmas.Bool.{false≢true, not-true, not-false}
use Rattle.tup_core.proofs.FilesLaws.{paths_all, paths_apart, paths_more}
use Rattle.tup_core.proofs.ending.are_outputs.Goals as goal

pub returns-then-ne : goal.returns-then-ne
returns-then-ne c = (
  λ e. absurd (false≢true e),
  λ same. absurd (paths_apart c.args.outputs.now c.args.files.now c.loop-at.at c.index-files-at.result c.index-outputs-at.result c.loop-at-test.true c.if-files-outputs.false c.index-files-at.is c.index-outputs-at.is
      (not-true _ (sym c.ne.ensures ∙ c.if-ne.true)) same),
)

pub loop-at-preserved : goal.loop-at-preserved
loop-at-preserved c =
    paths_more c.args.outputs.now c.args.files.now c.loop-at.at c.index-files-at.result c.index-outputs-at.result c.loop-at-test.true c.if-files-outputs.false c.index-outputs-at.is
    (not-false _ (sym c.ne.ensures ∙ c.if-ne.false)) c.loop-at.invariant

pub returns : goal.returns
returns c = (
  λ e. paths_all c.args.outputs.now c.args.files.now c.if-files-outputs.false (λ k below. c.loop-at.invariant k (omega (arith, below, c.loop-at-test.false))),
  λ e. refl,
)
