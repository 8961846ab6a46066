use Rattle.std.proofs.Common.{◌≡◌, inr, Result, Err, IfErr, string_bytes, subst, sym, arith}
use Rattle.tup_disk.specs.declared.failure.Refused.{Refused}
use Rattle.tup_db.specs.Cause.{IsUnrestored}
use Rattle.tup_db.specs.Own.{IsOwnBelow}
use Rattle.tup_db.proofs.Restoring.{refused_of}
use Rattle.tup_db.proofs.epoch.restore.Goals as goal

pub returns-in_err-sync : goal.returns-in_err-sync
returns-in_err-sync g c =
    let root = string_bytes c.args.disk.now.root in
    let refused = c.in_err-sync.field-0.0 in
    let is : c.from_residual-in_err-sync.result ≡ Err refused = grind arith in
    record {
      cause = subst (λ (r : Result (Unit {0}) Refused). IfErr r (IsUnrestored root)) (sym is)
          (refused_of root c.cut.new.store refused (subst (IsOwnBelow root) (sym c.cut.ensures.own) c.requires) (inr (inr (inr (inr (inr c.in_err-sync.ensures.cause))))));
    }
