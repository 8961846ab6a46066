use Rattle.std.proofs.Common.{ℕ, sym, subst}
use Rattle.std.specs.Result.{result_err}
use Rattle.tup_site.specs.World.{World}
use Rattle.tup_compare.specs.Holding.{HoldsOn}
use Rattle.tup_promise.specs.Unopened.{IsJustOpened}
use Rattle.tup_promise.specs.Cause.{HasCountedCause}
use Rattle.tup_compare.proofs.Comparing.{compared_before, runs_before}
use Rattle.tup_compare.proofs.Quiet.{then_quiet}
use Rattle.tup_compare.proofs.Opens.{opened_then}
use Rattle.tup_compare.proofs.compare.compare_site.Goals as goal

pub returns-clause-holds : goal.returns-clause-holds
returns-clause-holds g c = λ tells. subst (HoldsOn (g.S.Site.world c.args.site.now)) (sym (c.compare_beside.ensures.same tells)) (c.opened.ensures.holds tells)

pub returns-clause-opens : goal.returns-clause-opens
returns-clause-opens g c = λ tells.
    let before = (g.S.Site.world c.args.site.now).store in
    opened_then before (g.S.Site.world c.compare_beside.new.site).store (result_err c.compare_beside.result)
    (subst (λ (w : World). IsJustOpened before w.store) (sym (c.compare_beside.ensures.same tells)) (c.in_ok-owned.ensures.opens tells))

pub returns-clause-crash : goal.returns-clause-crash
returns-clause-crash g c = λ tells. then_quiet g.S.Site.moment g.S.Site.left_since c.args.site.now c.opened.new.site c.compare_beside.new.site HoldsOn (c.opened.ensures.crash tells) (c.compare_beside.ensures.crash tells)

pub returns-clause-compared : goal.returns-clause-compared
returns-clause-compared g c = λ tells means.
    compared_before g.R.Runner.next (g.S.Site.world c.args.site.now) (g.S.Site.world c.opened.new.site) (c.opened.ensures.holds tells) c.compare_beside.result c.compare_beside.ensures.sound (c.compare_beside.ensures.compared tells means)

pub returns-clause-ran : goal.returns-clause-ran
returns-clause-ran g c = λ tells means shows.
    runs_before g.R.Runner.next (g.S.Site.world c.args.site.now) (g.S.Site.world c.opened.new.site) (c.opened.ensures.holds tells) _ _ (result_err c.compare_beside.result) (c.compare_beside.ensures.ran tells means shows)

pub returns-clause-counted_cause : goal.returns-clause-counted_cause
returns-clause-counted_cause g c =
    subst (λ (n : ℕ). HasCountedCause n (g.S.Site.faults c.compare_beside.new.site) (result_err c.compare_beside.result)) c.in_ok-owned.ensures.counted c.compare_beside.ensures.counted_cause
