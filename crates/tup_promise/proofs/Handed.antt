-- What a refusal tells of the one that it hands on.
use Rattle.std.proofs.Common.{◌≡◌, Result, Ok, Err, Option, Some, IfErr, subst, sym, ap}
use Rattle.std.specs.Result.{IsErrAnd, result_err}

-- the fault that a result carries
pub err_is : {A E : Type 0} (result : Result A E) (fault : E) → IsErrAnd result (λ e. e ≡ fault) → result_err result ≡ Some fault
err_is {A} {E} (Ok value) fault is = absurd is
err_is {A} {E} (Err given) fault is = ap (λ (e : E). Some e) is

-- a fact of the fault that was handed on
pub err_if : {A E : Type 0} (result : Result A E) (fault : E) (P : E → Type 0) → IsErrAnd result (λ e. e ≡ fault) → P fault → IfErr result P
err_if {A} {E} (Ok value) fault P is p = absurd is
err_if {A} {E} (Err given) fault P is p = subst P (sym is) p

-- and one of what stopped a part
pub err_so : {A E : Type 0} (result : Result A E) (fault : E) (P : Option E → Type 0) → IsErrAnd result (λ e. e ≡ fault) → P (Some fault) → P (result_err result)
err_so result fault P is p = subst P (sym (err_is result fault is)) p
