use Rattle.std.proofs.Common.{◌≡◌, List, ℕ, Result, Err, IfErr, string_bytes, subst, sym, arith}
use Rattle.tup_disk.specs.declared.failure.Refused.{Refused}
use Rattle.tup_db.specs.Cause.{IsUnrestored}
use Rattle.tup_db.specs.Own.{IsOwnBelow}
use Rattle.tup_db.proofs.Restoring.{unread}
use Rattle.tup_db.proofs.epoch.keep.Goals as goal

pub returns-in_err-bytes : goal.returns-in_err-bytes
returns-in_err-bytes g c =
    let root = string_bytes c.args.disk.now.root in
    let store = c.in_ok-store.store in
    let refused = c.in_err-bytes.field-0.0 in
    let is : c.from_residual-in_err-bytes.result ≡ Err refused = grind arith in
    record {
      cause = subst (λ (r : Result (Unit {0}) Refused). IfErr r (IsUnrestored root)) (sym is)
          (unread root store refused (subst (λ (top : List ℕ). IsOwnBelow top store.own) c.root.ensures c.in_ok-store.ensures.own) c.in_err-bytes.ensures.cause);
    }
