use Rattle.std.proofs.Common.{Err, sym, ◌∙◌, subst}
use Rattle.std.proofs.lemmas.Result.{err_from_is_err_and}
use Rattle.tup_path.specs.Tree.{Tree}
use Rattle.tup_refresh.specs.Cause.{IsRefreshOf}
use Rattle.tup_refresh.specs.Part.{HasConfig, IsOutlined}
use Rattle.tup_refresh.specs.declared.fault.RefreshFault.{RefreshFault}
use Rattle.tup_refresh.proofs.Outcome.{settings_alike, walked_of, unset_of}
use Rattle.tup_refresh.proofs.refreshing.refresh_outlined.Goals as goal

pub returns-in-Ok-clause-refreshed : goal.returns-in-Ok-clause-refreshed
returns-in-Ok-clause-refreshed g c = λ tells sources outlined config are files trues.
    let a = c.args in
    let is = c.in_ok-outline.ensures in
    walked_of a.nodes.now sources c.in-Ok.settings c.all_found.result
    (sym (settings_alike sources c.in_ok-outline.outline (subst (HasConfig sources) (sym is) config)) ∙ c.in-Ok.ensures)
    (c.all_found.ensures.refreshed tells sources (subst (λ (outline : Tree). IsOutlined sources outline a.nodes.now) (sym is) outlined) are files trues)

pub returns-in-Err-clause-refreshed : goal.returns-in-Err-clause-refreshed
returns-in-Err-clause-refreshed g c = λ tells sources outlined config are files trues.
    let a = c.args in
    subst (λ (fault : RefreshFault). IsRefreshOf a.nodes.now sources (Err fault)) (sym c.from.ensures)
    (unset_of a.nodes.now sources c.in_ok-outline.outline c.in-Err.fault (subst (HasConfig sources) (sym c.in_ok-outline.ensures) config) c.in-Err.ensures)

pub returns-in_err-outline-clause-refreshed : goal.returns-in_err-outline-clause-refreshed
returns-in_err-outline-clause-refreshed g c = λ tells sources outlined config are files trues.
    let p = err_from_is_err_and c.from_residual.result c.from_residual.ensures.1 in
    rw (p.1, p.2) tt
