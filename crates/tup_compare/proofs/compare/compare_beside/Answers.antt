use Rattle.std.proofs.Common.{List, Result, ap, sym, subst, ◌∙◌}
use Rattle.std.specs.Result.{result_err}
use Rattle.std.specs.FinMap as finite
use Rattle.tup_site.specs.World.{World}
use Rattle.tup_path.specs.Name.{Names, Content}
use Rattle.tup_site.specs.declared.fault.SiteFailed.TheVariants.{Memory}
use Rattle.tup_compare.specs.Compared.{HasBuilt, RunsToCompare, compared_at, difference}
use Rattle.tup_promise.specs.declared.stop.Stop.{Stop}
use Rattle.tup_promise.specs.declared.stop.Stop.TheVariants.{Outside}
use Rattle.tup_site.specs.Crash.{NoStep}
use Rattle.tup_compare.proofs.Quiet.{then_quiet}
use Rattle.tup_compare.proofs.Comparing.{compared_alike, runs_on}
use Rattle.tup_compare.specs.Opened.{NoDamage}
use Rattle.tup_promise.proofs.Handed.{err_if, err_is}
use Rattle.tup_compare.proofs.compare.compare_beside.Goals as goal

pub returns-clause-compared : goal.returns-clause-compared
returns-clause-compared g c = λ tells means.
    let w = g.S.Site.world c.args.site.now in
    compared_alike g.R.Runner.next w c.in_ok-files.files c.in_ok-built.built c.in_ok-comparison.field-0
    (subst (HasBuilt g.R.Runner.next w) c.in_ok-built.was (c.clean_files.ensures.clean tells means))
    (c.in_ok-files.ensures.files tells ∙ ap (λ (world : World). finite.entries world.tree) (c.clean_files.ensures.same tells))
    (c.in_ok-comparison.ensures ∙ (λ i. compared_at (difference (c.as_slice.ensures i) (c.as_slice-2.ensures i))))

pub returns-in_err-files-clause-ran : goal.returns-in_err-files-clause-ran
returns-in_err-files-clause-ran g c = λ tells means shows.
    let w = g.S.Site.world c.args.site.now in
    let runs = RunsToCompare g.R.Runner.next w (g.R.Runner.ran c.args.runner.now) (g.R.Runner.ran c.clean_files.new.runner) in
    let failed = c.in_err-files.field-0.0 in
    subst runs (sym (err_is c.from_residual-in_err-files.result (Outside failed) c.from_residual-in_err-files.ensures.1))
    (runs_on g.R.Runner.next w _ _ failed (subst (λ (r : Result (List (Names × Content)) Stop). runs (result_err r)) c.in_ok-built.was (c.clean_files.ensures.ran tells means shows)))

pub returns-in_err-comparison-clause-ran : goal.returns-in_err-comparison-clause-ran
returns-in_err-comparison-clause-ran g c = λ tells means shows.
    let w = g.S.Site.world c.args.site.now in
    let runs = RunsToCompare g.R.Runner.next w (g.R.Runner.ran c.args.runner.now) (g.R.Runner.ran c.clean_files.new.runner) in
    subst runs (sym (err_is c.from_residual-in_err-comparison.result (Outside Memory) c.from_residual-in_err-comparison.ensures.1))
    (runs_on g.R.Runner.next w _ _ Memory (subst (λ (r : Result (List (Names × Content)) Stop). runs (result_err r)) c.in_ok-built.was (c.clean_files.ensures.ran tells means shows)))

pub returns-in_err-files-clause-crash : goal.returns-in_err-files-clause-crash
returns-in_err-files-clause-crash g c = λ tells.
    then_quiet g.S.Site.moment g.S.Site.left_since c.args.site.now c.clean_files.new.site c.all_files.new.site NoStep (c.clean_files.ensures.crash tells) (c.all_files.ensures.crash tells)

pub returns-in_err-comparison-clause-crash : goal.returns-in_err-comparison-clause-crash
returns-in_err-comparison-clause-crash g c = λ tells.
    then_quiet g.S.Site.moment g.S.Site.left_since c.args.site.now c.clean_files.new.site c.all_files.new.site NoStep (c.clean_files.ensures.crash tells) (c.all_files.ensures.crash tells)

pub returns-clause-crash : goal.returns-clause-crash
returns-clause-crash g c = λ tells.
    then_quiet g.S.Site.moment g.S.Site.left_since c.args.site.now c.clean_files.new.site c.all_files.new.site NoStep (c.clean_files.ensures.crash tells) (c.all_files.ensures.crash tells)

pub returns-in_err-built-clause-sound : goal.returns-in_err-built-clause-sound
returns-in_err-built-clause-sound g c = err_if c.from_residual.result c.in_err-built.field-0.0 NoDamage c.from_residual.ensures.1 c.in_err-built.ensures.sound
