use Rattle.std.proofs.Common.{◌≡◌, ◌⊎◌, inl, inr, Result, Err, IfErr, string_bytes, subst, sym, arith}
use Rattle.tup_disk.specs.declared.failure.Refused.{Refused}
use Rattle.tup_db.specs.Cause.{HasNoEpoch, IsNotSettled, IsNotSynced, IsUnsummed}
use Rattle.tup_db.specs.declared.epoch.Epoch.{Epoch}
use Rattle.tup_db.proofs.epoch.Epoch.begin.Goals as goal

pub returns-in_err-settle-clause-cause : goal.returns-in_err-settle-clause-cause
returns-in_err-settle-clause-cause g c =
    let root = string_bytes c.args.disk.now.root in
    let store = c.args.store.now in
    let is : c.from_residual.result ≡ Err c.in_err-settle.field-0.0 = grind arith in
    subst (λ (r : Result Epoch Refused). IfErr r (λ refused. IsNotSettled root c.args.touched.now refused ⊎ IsNotSynced root store refused ⊎ IsUnsummed store refused ⊎ HasNoEpoch store.own refused)) (sym is)
    (inl c.in_err-settle.ensures.cause)

pub returns-in_err-sync-clause-cause : goal.returns-in_err-sync-clause-cause
returns-in_err-sync-clause-cause g c =
    let root = string_bytes c.args.disk.now.root in
    let store = c.args.store.now in
    let is : c.from_residual-in_err-sync.result ≡ Err c.in_err-sync.field-0.0 = grind arith in
    subst (λ (r : Result Epoch Refused). IfErr r (λ refused. IsNotSettled root c.args.touched.now refused ⊎ IsNotSynced root store refused ⊎ IsUnsummed c.sync.new.self refused ⊎ HasNoEpoch store.own refused)) (sym is)
    (inr (inl c.in_err-sync.ensures.cause))
