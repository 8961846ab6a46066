use Rattle.std.proofs.Common.{ℕ, List, refl, sym, subst}
use Rattle.std.specs.FinMap as finite
use Rattle.tup_path.specs.Order.{by_names}
use Rattle.tup_rule.specs.declared.rule.Rule.{Rule}
use Rattle.tup_clean.specs.Clean.{clean}
use Rattle.tup_clean.specs.Ran.{commands}
use Rattle.std.specs.Result.{result_err}
use Rattle.tup_compare.specs.Compared.{IsGoodBuild, RunsBuildOf}
use Rattle.tup_compare.specs.Holding.{holding}
use Rattle.tup_promise.specs.Cause.{HasCountedCause}
use Rattle.tup_compare.specs.Stopped.{stop_of}
use Rattle.tup_compare.proofs.Comparing.{unread_compared, built_err, built_compared, built_runs}
use Rattle.tup_promise.proofs.Handed.{err_is}
use Rattle.tup_compare.proofs.Reading.{refusal_counts, refusal_unread}
use Rattle.tup_compare.proofs.Reading.{sources_read}
use Rattle.tup_compare.proofs.compare.clean_files.Goals as goal

pub returns-in_err-found-clause-clean : goal.returns-in_err-found-clause-clean
returns-in_err-found-clause-clean g c = λ tells means.
    let w = g.S.Site.world c.args.site.now in
    let unread = c.in_err-found.field-0.0 in
    built_err g.R.Runner.next w c.from_residual.result (stop_of unread) c.from_residual.ensures.1
    (unread_compared g.R.Runner.next w unread (c.in_err-found.ensures.cause tells))

pub returns-in_err-rules-clause-clean : goal.returns-in_err-rules-clause-clean
returns-in_err-rules-clause-clean g c = λ tells means.
    let w = g.S.Site.world c.args.site.now in
    let unread = c.in_err-rules.field-0.0 in
    let found = c.in_ok-found.ensures.found tells in
    built_err g.R.Runner.next w c.from_residual-in_err-rules.result (stop_of unread) c.from_residual-in_err-rules.ensures.1
    (unread_compared g.R.Runner.next w unread (refusal_unread w c.in_ok-found.found.owned unread found.owned (c.in_err-rules.ensures.refused w found)))

pub returns-in_err-rules-clause-counted_cause : goal.returns-in_err-rules-clause-counted_cause
returns-in_err-rules-clause-counted_cause g c =
    let unread = c.in_err-rules.field-0.0 in
    let before = g.S.Site.faults c.args.site.now in
    let now = g.S.Site.faults c.read.new.site in
    subst (HasCountedCause before now) (sym (err_is c.from_residual-in_err-rules.result (stop_of unread) c.from_residual-in_err-rules.ensures.1))
    (refusal_counts before now unread (c.read.ensures.counted.steady (λ e. cc (c.in_ok-found.was, e))) c.in_err-rules.ensures.fault)

pub returns-clause-clean : goal.returns-clause-clean
returns-clause-clean g c = λ tells means.
    let w = g.S.Site.world c.args.site.now in
    let found = c.in_ok-found.ensures.found tells in
    let site_laws = g.met.S.Site in
    built_compared g.R.Runner.next w (holding w c.in_ok-found.found.owned) c.in_ok-rules.rules _ c.good_build.result (record { lists = found.owned; tree = refl }) (c.in_ok-rules.ensures.asked w found)
    (c.in_ok-rules.ensures.buildable w (site_laws.is_tree c.args.site.now tells) found) (sources_read w c.in_ok-found.found found)
    (subst (λ (l : List Rule). IsGoodBuild l (clean g.R.Runner.next l (finite.from_sorted {R = by_names} c.in_ok-found.found.sources)) c.good_build.result) c.as_slice.ensures (c.good_build.ensures.built means))

pub returns-clause-ran : goal.returns-clause-ran
returns-clause-ran g c = λ tells means shows.
    let w = g.S.Site.world c.args.site.now in
    let found = c.in_ok-found.ensures.found tells in
    let sources = finite.from_sorted {R = by_names} c.in_ok-found.found.sources in
    built_runs g.R.Runner.next w (holding w c.in_ok-found.found.owned) c.in_ok-rules.rules sources _ _ c.good_build.result (record { lists = found.owned; tree = refl }) (c.in_ok-rules.ensures.asked w found) (sources_read w c.in_ok-found.found found)
    (subst (λ (l : List Rule). IsGoodBuild l (clean g.R.Runner.next l sources) c.good_build.result) c.as_slice.ensures (c.good_build.ensures.built means))
    (subst (λ (l : List Rule). RunsBuildOf (commands g.R.Runner.next l sources) (g.R.Runner.ran c.args.runner.now) (g.R.Runner.ran c.good_build.new.runner) (result_err c.good_build.result)) c.as_slice.ensures (c.good_build.ensures.ran means shows))

pub returns-clause-counted_cause : goal.returns-clause-counted_cause
returns-clause-counted_cause g c =
    let before = g.S.Site.faults c.args.site.now in
    subst (λ (n : ℕ). HasCountedCause before n (result_err c.good_build.result)) (sym (c.read.ensures.counted.steady (λ e. cc (c.in_ok-found.was, e)))) (c.good_build.ensures.counted before)
