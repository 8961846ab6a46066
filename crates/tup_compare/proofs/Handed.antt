-- What a refusal tells of the refusal that it hands on.
use Rattle.std.proofs.Common.{◌≡◌, Result, Ok, Err, sym, ◌∙◌, ap}
use Rattle.std.specs.Result.{IsErrAnd}

-- what a call's refusal is, where it was handed on as it is
pub handed_on : {A B E : Type 0} (called : Result A E) (result : Result B E) (stop other : E) → called ≡ Err stop → IsErrAnd result (λ e. e ≡ stop) → result ≡ Err other → called ≡ Err other
handed_on called (Ok value) stop other was is e = absurd is
handed_on called (Err given) stop other was is e = let same : given ≡ other = cc in was ∙ ap Err (sym is ∙ same)
