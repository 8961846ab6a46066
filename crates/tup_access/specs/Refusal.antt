-- What a refusal says: nothing where memory was wanting, and else which verdict is given.
use Rattle.std.specs.Prelude.{◌≡◌, ◌⊎◌, ℕ, false, List, Option, Some, None}
use Rattle.tup_path.specs.Name.{Names, Content}
use Rattle.tup_rule.specs.declared.rule.Rule.{Rule}
use Rattle.tup_access.specs.declared.refusal.Refusal.{Refusal}
use Rattle.tup_access.specs.declared.refusal.Refusal.TheVariants.{Bad, Memory}
use Rattle.tup_access.specs.declared.verdict.Verdict.TheVariants.{IllegalWrite, Unwritten}
use Rattle.tup_access.specs.Judge.{Judged, bad, names_output}
use Rattle.tup_access.specs.Written.{LastWrites, content_in}

-- of a command as a whole
abbrev pub Refuses : Judged → Refusal → Type 0
Refuses judged Memory = Unit {0}
Refuses judged (Bad verdict) = judged ≡ bad verdict

-- of the first write that names no output
abbrev pub RefusesWrite : Option (List ℕ × Content) → Refusal → Type 0
RefusesWrite first Memory = Unit {0}
RefusesWrite first (Bad verdict) = (w : List ℕ × Content) × (first ≡ Some w) × (verdict ≡ IllegalWrite w.0)

-- of the first output that wasn't written
abbrev pub RefusesOutput : Option Names → Refusal → Type 0
RefusesOutput first Memory = Unit {0}
RefusesOutput first (Bad verdict) = (path : Names) × (first ≡ Some path) × (verdict ≡ Unwritten path)

-- of a text that names no output
abbrev pub RefusesText : Rule → List ℕ → Refusal → Type 0
RefusesText rule text refusal =
    (refusal ≡ Memory) ⊎ ((names_output rule text ≡ false) × (refusal ≡ Bad (IllegalWrite text)))

-- of an output without a content
abbrev pub RefusesFile : LastWrites → Names → Refusal → Type 0
RefusesFile last output refusal =
    (refusal ≡ Memory) ⊎ ((content_in last output ≡ None) × (refusal ≡ Bad (Unwritten output)))
