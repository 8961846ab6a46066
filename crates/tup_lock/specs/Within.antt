-- What a closure does that is let in to a value (own).
use Rattle.std.specs.Prelude.{◌≡◌, ℕ}
use denote.Ref.{MutBor}
use Rattle.std.specs.Fn.{Once}

module _ {F T X : Type 0} (g : Once F (MutBor T × (ℕ × Unit {0})) (X × (MutBor T × Unit {0}))) (f : F) where
  -- it may be called at a `&mut` to a value, with a number
  abbrev pub Takes : T → ℕ → Type 0
  Takes value number = (p : MutBor T) → p.now ≡ value → g.pre f (p, (number, tt))

  -- such a call may give x and leave `left`
  pub record Ran (value : T) (number : ℕ) (x : X) (left : T) : Type 0 where
    pub shown : MutBor T
    pub shows : shown.now ≡ value
    pub after : MutBor T
    pub met : g.post f (shown, (number, tt)) (x, (after, tt))
    pub leaves : after.now ≡ left
