use Rattle.std.proofs.Common.{◌≡◌, ◌⊎◌, inl, Result, Err, IfErr, string_bytes, subst, sym, arith}
use Rattle.tup_disk.specs.declared.failure.Refused.{Refused}
use Rattle.tup_db.specs.Cause.{IsNotSettled, IsNotSynced, IsUnforgotten}
use Rattle.tup_db.proofs.epoch.end_epoch.Goals as goal

pub returns-in_err-settle-clause-cause : goal.returns-in_err-settle-clause-cause
returns-in_err-settle-clause-cause g c =
    let root = string_bytes c.args.disk.now.root in
    let store = c.args.store.now in
    let is : c.from_residual.result ≡ Err c.in_err-settle.field-0.0 = grind arith in
    subst (λ (r : Result (Unit {0}) Refused). IfErr r (λ refused. IsNotSettled root c.args.touched.now refused ⊎ IsNotSynced root store refused ⊎ IsUnforgotten store.own refused)) (sym is)
    (inl c.in_err-settle.ensures.cause)
