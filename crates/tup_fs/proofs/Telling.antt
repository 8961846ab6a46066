-- What holds of an answer holds of how it is told.
use Rattle.std.proofs.Common.{◌≡◌, Result, Ok, Err, IfOk, IfErr, OnOk, OnErr, subst}
use Rattle.tup_disk.specs.declared.failure.Refused.{Refused}
use Rattle.tup_site.specs.declared.fault.SiteFailed.{SiteFailed}
use Rattle.tup_fs.specs.Last.{IsRefusalOf}

-- what holds where a call was done holds where it is told as done
pub done_as_told : {T E F : Type 0} (P : Type 0) (answer : Result T E) (told : Result T F)
    → IfOk told (λ value. answer ≡ Ok value) → OnOk answer P → OnOk told P
done_as_told P answer (Ok value) is done = subst (λ r. OnOk r P) is done
done_as_told P answer (Err failed) is done = tt

-- what holds where a call was refused holds where it is told as refused
pub refused_as_told : {T : Type 0} (P : Type 0) (answer : Result T Refused) (told : Result T SiteFailed)
    → IfErr told (IsRefusalOf answer) → OnErr answer P → OnErr told P
refused_as_told P answer (Ok value) is was = tt
refused_as_told P (Ok value) (Err failed) is was = absurd is
refused_as_told P (Err refused) (Err failed) is was = was
