use Rattle.std.proofs.Common.{◌≡◌, Result, Err, IfErr, string_bytes, subst, sym, arith}
use Rattle.tup_disk.specs.declared.failure.Refused.{Refused}
use Rattle.tup_db.specs.Cause.{IsUnrestored}
use Rattle.tup_db.specs.Own.{IsOwnBelow}
use Rattle.tup_db.proofs.Restoring.{uncut}
use Rattle.tup_db.proofs.epoch.cut.Goals as goal

pub returns-in_err-cut-clause-cause : goal.returns-in_err-cut-clause-cause
returns-in_err-cut-clause-cause g c =
    let root = string_bytes c.args.disk.now.root in
    let is : c.from_residual-in_err-cut.result ≡ Err c.in_err-cut.field-0.0 = grind arith in
    subst (λ (r : Result (Unit {0}) Refused). IfErr r (IsUnrestored root)) (sym is)
    (uncut root c.loop-gate.store c.cut.new.self c.in_err-cut.field-0.0 (subst (IsOwnBelow root) (sym c.loop-gate.invariant) c.requires) c.cut.ensures.own c.in_err-cut.ensures.cause)
