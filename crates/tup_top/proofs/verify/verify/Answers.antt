use Rattle.std.proofs.Common.{rules, inl, inr, refl, ⊎_elim}
use Rattle.std.specs.Result.{result_err}
use Rattle.tup_compare.specs.Compared.{HasCompared, RunsToCompare}
use Rattle.tup_compare.specs.Opened.{JustOpens}
use Rattle.tup_top.specs.Lines.{compared_line}
use Rattle.tup_top.specs.Status.{status_of_compared}
use Rattle.tup_top.proofs.Causes.{prints_nothing}
use Rattle.tup_top.proofs.Verified.{compared_answered, untold_compared, compared_counts, failed, prints_compared}
use Rattle.tup_top.proofs.verify.verify.Goals as goal

pub returns-in-Ok-clause-compared : goal.returns-in-Ok-clause-compared
returns-in-Ok-clause-compared g c = λ tells means.
    let compared = c.compare_site in
    compared_answered (HasCompared g.R.Runner.next (g.S.Site.world c.args.site.now)) _ _ _ _ compared.result _ _ c.status_of_compared-status.ensures c.print.ensures.ends
    compared.ensures.counted_cause (compared.ensures.compared tells means) tt

pub returns-in-Ok-clause-opens : goal.returns-in-Ok-clause-opens
returns-in-Ok-clause-opens g c = λ tells.
    let compared = c.compare_site in
    compared_answered (λ result. JustOpens (g.S.Site.world c.args.site.now).store (g.S.Site.world compared.new.site).store (result_err result)) _ _ _ _ compared.result _ _ c.status_of_compared-status.ensures c.print.ensures.ends
    compared.ensures.counted_cause (compared.ensures.opens tells) (⊎_elim inl (λ same. inr same.3) (compared.ensures.holds tells).store)

pub returns-in-Ok-clause-ran : goal.returns-in-Ok-clause-ran
returns-in-Ok-clause-ran g c = λ tells means shows.
    let compared = c.compare_site in
    let w = g.S.Site.world c.args.site.now in
    let ran = compared.ensures.ran tells means shows in
    compared_answered (λ result. RunsToCompare g.R.Runner.next w (g.R.Runner.ran c.args.runner.now) (g.R.Runner.ran compared.new.runner) (result_err result)) _ _ _ _ compared.result _ _
    c.status_of_compared-status.ensures c.print.ensures.ends compared.ensures.counted_cause ran (untold_compared g.R.Runner.next w _ _ (result_err compared.result) ran)

pub returns-in-Ok-clause-counted_cause : goal.returns-in-Ok-clause-counted_cause
returns-in-Ok-clause-counted_cause g c =
    let compared = c.compare_site in
    compared_counts (g.S.Site.faults c.args.site.now) (g.S.Site.faults compared.new.site) (g.R.Runner.faults c.args.runner.now) (g.R.Runner.faults compared.new.runner) (g.K.Sink.faults c.args.out.now)
    (g.K.Sink.faults c.print.new.out) compared.result _ _ c.status_of_compared-status.ensures c.print.ensures.ends c.print.ensures.counted compared.ensures.counted_cause compared.ensures.run_cause

pub returns-in-Ok-clause-printed : goal.returns-in-Ok-clause-printed
returns-in-Ok-clause-printed g c = λ shows.
    let compared = c.compare_site in
    prints_compared g.S.Site.tells g.R.Runner.tells g.R.Runner.next _ _ _ _ _ compared.result _ _ _ (λ tells means. compared.ensures.compared tells means) c.status_of_compared-status.ensures (search rules) c.print.ensures.ends (c.print.ensures.prints shows)

-- no memory for its line
pub returns-in-Err-clause-opens : goal.returns-in-Err-clause-opens
returns-in-Err-clause-opens g c = λ tells. ⊎_elim inl (λ same. inr same.3) (c.compare_site.ensures.holds tells).store

pub returns-in-Err-clause-counted_cause : goal.returns-in-Err-clause-counted_cause
returns-in-Err-clause-counted_cause g c =
    let compared = c.compare_site in
    let heard = g.K.Sink.faults c.args.out.now in
    failed (g.S.Site.faults c.args.site.now) (g.S.Site.faults compared.new.site) (g.R.Runner.faults c.args.runner.now) (g.R.Runner.faults compared.new.runner) heard heard
    compared.result compared.ensures.counted_cause compared.ensures.run_cause

pub returns-in-Err-clause-ran : goal.returns-in-Err-clause-ran
returns-in-Err-clause-ran g c = λ tells means shows.
    untold_compared g.R.Runner.next (g.S.Site.world c.args.site.now) _ _ (result_err c.compare_site.result) (c.compare_site.ensures.ran tells means shows)

pub returns-in-Err-clause-printed : goal.returns-in-Err-clause-printed
returns-in-Err-clause-printed g c = λ _.
    let compared = c.compare_site in
    let count = g.K.Sink.faults c.args.out.now in
    let status = status_of_compared compared.result in
    record {
      compared = compared.result;
      has = λ tells means. compared.ensures.compared tells means;
      ends = inr (inl refl);
      prints = prints_nothing status (compared_line status) count count (g.K.Sink.held c.args.out.now);
    }
