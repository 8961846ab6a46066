-- What a rule's command was denied.
use Rattle.std.specs.Prelude.{ℕ, List, Option, None, Some}
use Rattle.tup_runner.specs.Refusal.{Refusal}
use Rattle.tup_runner.specs.declared.fault.ViewFailed.TheVariants.{Denied}
use Rattle.tup_access.specs.declared.verdict.Verdict.{Verdict}

-- a text that was denied, if there is one
abbrev pub denial : Option (List ℕ × Verdict) → Option Refusal
denial None = None
denial (Some denied) = Some (record { text = denied.0; why = Denied })
