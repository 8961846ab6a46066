-- Sets that grow (own).
use Rattle.std.specs.Prelude.{◌⊎◌}

-- what is in a set afterwards: what was, and these
pub record Grows {X : Type 0} (Added Old New : X → Type 0) : Type 0 where
  pub only : (x : X) → New x → Old x ⊎ Added x
  pub all : (x : X) → Added x → New x
  pub kept : (x : X) → Old x → New x
