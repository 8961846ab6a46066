use Rattle.std.proofs.Common.{sym, subst}
use Rattle.tup_site.specs.World.{World}
use Rattle.tup_site.specs.Cause.{IsTooLarge}
use Rattle.tup_site.specs.declared.fault.SiteFailed.TheVariants.{TooLarge}
use Rattle.tup_compare.proofs.Handed.{handed_on}
use Rattle.tup_compare.proofs.found.add.Goals as goal

pub returns-in_err-content-clause-large : goal.returns-in_err-content-clause-large
returns-in_err-content-clause-large g c = λ tells n is.
    let was = handed_on c.get.result c.from_residual.result c.in_err-content.field-0.0 (TooLarge n) c.in_err-content.was c.from_residual.ensures.1 is in
    subst (λ (w : World). IsTooLarge w.tree c.args.path.now n) (sym (c.get.ensures.same tells)) (c.get.ensures.length tells n was)
