-- Values that may not be, and what can't be the same.
use Rattle.std.specs.Prelude.{◌≡◌, true, false, None, Some}

pub some_same : {X : Type 0} (x y : X) → Some x ≡ Some y → x ≡ y
some_same x y e = cc

pub none_some : {X : Type 0} (x : X) → None ≡ Some x → ⊥
none_some x e = let no : None ≡ Some x = e in cc

pub true_false : true ≡ false → ⊥
true_false e = let no : true ≡ false = e in cc
