use Rattle.std.proofs.Common.{◌≡◌, Option, Result, Err, subst, sym, arith}
use Rattle.tup_path.specs.Name.{Content}
use Rattle.tup_rule_outputs.specs.Fault.{of_site}
use Rattle.tup_rule_outputs.specs.Ground.{OnlyLarge, NamesLength}
use Rattle.tup_rule_outputs.specs.declared.fault.BoardFault.{BoardFault}
use Rattle.tup_rule_outputs.specs.declared.fault.BoardFault.TheVariants.{Full}
use Rattle.tup_rule_outputs.proofs.Faults.{counts_given, large_failed, length_failed, full_failed}
use Rattle.tup_rule_outputs.proofs.reads.GroundReads.get.Goals as goal

pub returns-in_err-get-clause-too_large : goal.returns-in_err-get-clause-too_large
returns-in_err-get-clause-too_large g c =
    let is : c.from_residual.result ≡ Err (of_site c.in_err-get.field-0.0) = grind arith in
    subst OnlyLarge (sym is) (large_failed c.in_err-get.field-0.0 c.in_err-get.ensures.too_large)

pub returns-in_err-get-clause-length : goal.returns-in_err-get-clause-length
returns-in_err-get-clause-length g c = λ tells.
    let is : c.from_residual.result ≡ Err (of_site c.in_err-get.field-0.0) = grind arith in
    subst (NamesLength (g.S.Site.world c.args.self.now.site).tree c.args.path.now) (sym is)
    (length_failed (g.S.Site.world c.args.self.now.site).tree c.args.path.now c.in_err-get.field-0.0 (c.in_err-get.ensures.length tells))

pub returns-in_err-get-clause-never_full : goal.returns-in_err-get-clause-never_full
returns-in_err-get-clause-never_full g c =
    let is : c.from_residual.result ≡ Err (of_site c.in_err-get.field-0.0) = grind arith in
    subst (λ (r : Result (Option Content) BoardFault). r ≡ Err Full → ⊥) (sym is) (full_failed c.in_err-get.field-0.0)

pub returns-clause-cause : goal.returns-clause-cause
returns-clause-cause g c = counts_given _ _ c.in_ok-get.field-0 _ c.in_ok-get.ensures.cause
