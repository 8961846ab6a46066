use Rattle.std.proofs.Common.{Option, subst, sym, ◌∙◌, refl}
use Rattle.std.proofs.lemmas.Result.{err_from_is_err_and}
use Rattle.tup_path.specs.Name.{Names}
use Rattle.tup_site.specs.World.{World}
use Rattle.tup_readings.specs.State.{IsLast}
use Rattle.tup_ledger.proofs.Guarding.{at_rest}
use Rattle.tup_refresh.specs.Part.{AreFilesOf}
use Rattle.tup_refresh.proofs.Staying.{goes_then}
use Rattle.tup_refresh.proofs.Walking.{walk_started, walk_next}
use Rattle.tup_refresh.proofs.refreshing.all_found.Goals as goal

pub loop-walk-init : goal.loop-walk-init
loop-walk-init g c = record {
  walk = λ tells sources outlined files trues is. is;
  counted = refl;
  same = λ tells. refl;
  crash = λ tells. at_rest g.S.Site.moment g.S.Site.left_since _;
  known = λ tells. refl;
}

pub loop-walk-preserved : goal.loop-walk-preserved
loop-walk-preserved g c =
    let a = c.args in
    let mid = c.loop-walk.invariant in
    record {
      walk = λ tells sources outlined files trues is.
          c.in_ok-advance.ensures.walk tells sources outlined (subst (λ (w : World). AreFilesOf w.tree sources) (sym (mid.same tells)) files) trues
          (walk_next a.nodes.now sources a.settings.now c.loop-walk.walk c.next.new.self _ (mid.walk tells sources outlined files trues is) c.in_ok-dir.ensures);
      counted = c.advance.ensures.cause.steady (λ e. cc (c.in_ok-advance.was, e)) ∙ mid.counted;
      same = λ tells. c.advance.ensures.same tells ∙ mid.same tells;
      crash = λ tells. goes_then g.S.Site.moment g.S.Site.left_since _ _ _ (mid.crash tells) (c.advance.ensures.crash tells);
      known = λ tells. c.advance.ensures.known tells ∙ mid.known tells;
    }

pub done-requires : goal.done-requires
done-requires g c = subst (λ (dir : Option Names). IsLast dir c.next.new.self) c.in_default.is c.in_ok-dir.ensures.last

pub returns-clause-refreshed : goal.returns-clause-refreshed
returns-clause-refreshed g c = λ tells sources outlined are files trues.
    let a = c.args in
    let start = walk_started a.nodes.now sources a.settings.now a.outline.now a.fetched _ outlined.paths are c.in_ok-walk.ensures in
    c.in_ok-done.ensures.refreshed sources a.settings.now outlined.paths
    (walk_next a.nodes.now sources a.settings.now c.loop-walk.walk c.next.new.self _ (c.loop-walk.invariant.walk tells sources outlined files trues start) c.in_ok-dir.ensures)

pub returns-in_err-advance-clause-refreshed : goal.returns-in_err-advance-clause-refreshed
returns-in_err-advance-clause-refreshed g c = λ tells sources outlined are files trues.
    let a = c.args in
    let start = walk_started a.nodes.now sources a.settings.now a.outline.now a.fetched _ outlined.paths are c.in_ok-walk.ensures in
    let p = err_from_is_err_and c.from_residual-in_err-advance.result c.from_residual-in_err-advance.ensures.1 in
    rw (p.1, p.2) (c.in_err-advance.ensures.fault sources outlined trues
    (walk_next a.nodes.now sources a.settings.now c.loop-walk.walk c.next.new.self _ (c.loop-walk.invariant.walk tells sources outlined files trues start) c.in_ok-dir.ensures))
