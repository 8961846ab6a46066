use Rattle.std.proofs.lemmas.Result.{err_from_is_err_and}
use Rattle.tup_scan.proofs.Refused.{named_on}
use Rattle.tup_scan_crew.proofs.scanning.read.Goals as goal

pub returns-in_err-content-clause-named : goal.returns-in_err-content-clause-named
returns-in_err-content-clause-named g c = λ tells.
    let p = err_from_is_err_and c.from_residual.result c.from_residual.ensures.1 in
    named_on (g.S.Site.world c.args.site.now).tree c.args.path c.in_err-content.field-0.0 c.get.result p.0 c.from_residual.result c.in_err-content.was p.2 p.1 (c.get.ensures.length tells)
