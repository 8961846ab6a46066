-- What belongs to a whole before and after some were added or taken away (own).
use Rattle.std.specs.Prelude.{◌⊎◌, ◌↔◌}

-- afterwards: what did before, and these
abbrev pub Adds : {X : Type 0} → (X → Type 0) → (X → Type 0) → (X → Type 0) → Type 0
Adds {X} Added Old New = (x : X) → New x ↔ (Old x ⊎ Added x)

-- afterwards: at least what did before, and these
abbrev pub AddsAtLeast : {X : Type 0} → (X → Type 0) → (X → Type 0) → (X → Type 0) → Type 0
AddsAtLeast {X} Added Old New = (x : X) → Old x ⊎ Added x → New x

-- afterwards: what did before, without these
abbrev pub Takes : {X : Type 0} → (X → Type 0) → (X → Type 0) → (X → Type 0) → Type 0
Takes {X} Gone Old New = (x : X) → New x ↔ (Old x × (Gone x → ⊥))
