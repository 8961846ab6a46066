-- What a call answers that takes memory (own).
use Rattle.std.specs.Prelude.{◌≡◌, ◌⊎◌, Result, Err}

-- it gives just this answer, unless it is refused for want of memory; the fault of that name is the caller's
abbrev pub GivesUnless : {T E : Type 0} → Result T E → E → Result T E → Type 0
GivesUnless result memory answer = (result ≡ Err memory) ⊎ (result ≡ answer)
