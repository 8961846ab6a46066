use Rattle.std.proofs.Common.{◌≡◌, inl, inr, Result, Err, IfErr, string_bytes, subst, sym, arith}
use Rattle.tup_disk.specs.declared.failure.Refused.{Refused}
use Rattle.tup_db.specs.Cause.{IsUnrecovered}
use Rattle.tup_db.proofs.epoch.recover.Goals as goal

pub returns-in_err-keep : goal.returns-in_err-keep
returns-in_err-keep g c =
    let root = string_bytes c.args.disk.now.root in
    let is : c.from_residual-in_err-keep.result ≡ Err c.in_err-keep.field-0.0 = grind arith in
    record {
      cause = subst (λ (r : Result (Unit {0}) Refused). IfErr r (IsUnrecovered root c.args.own.now)) (sym is)
          (inr (inr (inr (inl c.in_err-keep.ensures.cause))));
    }
