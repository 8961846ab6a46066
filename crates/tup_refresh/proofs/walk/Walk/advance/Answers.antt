use Rattle.std.proofs.Common.{subst}
use Rattle.std.proofs.lemmas.Result.{err_from_is_err_and}
use Rattle.tup_refresh.specs.Walk.{HasGone}
use Rattle.tup_refresh.proofs.Causes.{named_on, none_told, told_on}
use Rattle.tup_refresh.proofs.Walking.{walk_fetched, lacks_one}
use Rattle.tup_refresh.proofs.walk.Walk.advance.Goals as goal

pub fetch-requires : goal.fetch-requires
fetch-requires g c =
    let gone = subst (HasGone c.args.self.now c.go_on.new.self) c.in-Some.is c.in_ok-path.ensures.gone in
    record { missing = lacks_one c.args.self.now c.go_on.new.self c.in-Some.path gone }

pub returns-in_ok-fetch-in-Some-clause-walk : goal.returns-in_ok-fetch-in-Some-clause-walk
returns-in_ok-fetch-in-Some-clause-walk g c = λ tells sources outlined files trues is.
    let a = c.args in
    let mid = c.go_on.new.self in
    let gone = subst (HasGone a.self.now mid) c.in-Some.is c.in_ok-path.ensures.gone in
    let so = c.in_ok-path.ensures.walk sources outlined trues is in
    walk_fetched a.nodes.now sources a.settings.now mid c.fetch.new.self so
    (c.in_ok-fetch-in-Some.ensures.fetched tells sources (files c.in-Some.path (so.fetched.missing c.in-Some.path (lacks_one a.self.now mid c.in-Some.path gone))))

pub returns-in_err-path-clause-fault : goal.returns-in_err-path-clause-fault
returns-in_err-path-clause-fault g c =
    let p = err_from_is_err_and c.from_residual.result c.from_residual.ensures.1 in
    rw (p.1, p.2) (λ sources outlined trues is. told_on sources c.args.settings.now c.in_err-path.field-0.0 (c.in_err-path.ensures.fault sources outlined trues is))

pub returns-in_err-fetch-in-Some-clause-fault : goal.returns-in_err-fetch-in-Some-clause-fault
returns-in_err-fetch-in-Some-clause-fault g c =
    let p = err_from_is_err_and c.from_residual-in_err-fetch-in-Some.result c.from_residual-in_err-fetch-in-Some.ensures.1 in
    rw (p.1, p.2) (λ sources outlined trues is. none_told sources c.args.settings.now c.in_err-fetch-in-Some.field-0.0)

pub returns-in_err-fetch-in-Some-clause-named : goal.returns-in_err-fetch-in-Some-clause-named
returns-in_err-fetch-in-Some-clause-named g c = λ tells.
    let p = err_from_is_err_and c.from_residual-in_err-fetch-in-Some.result c.from_residual-in_err-fetch-in-Some.ensures.1 in
    named_on (g.S.Site.world c.args.site.now).tree c.in-Some.path c.in_err-fetch-in-Some.field-0.0 c.fetch.result p.0 c.from_residual-in_err-fetch-in-Some.result c.in_err-fetch-in-Some.was p.2 p.1 (c.fetch.ensures.named tells)
