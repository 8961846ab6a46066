-- What a command may read.
use Rattle.std.proofs.Common.{◌≡◌, Bool, true, false, not, ◌&&◌, ◌||◌, List, refl, ap, ◌∙◌}
use Rattle.std.specs.BTreeSet.{BTreeSet, contains}
use Rattle.tup_path.specs.Name.{Names}
use Rattle.tup_path.specs.Order.{by_names}

-- a path that no rule makes may be read
pub may_plain : (generated declared own : Bool) → generated ≡ false → not (generated && not declared && not own) ≡ true
may_plain generated declared own is = ap (λ (b : Bool). not (b && not declared && not own)) is

-- and one that is declared
pub may_declared : (generated declared own : Bool) → declared ≡ true → not (generated && not declared && not own) ≡ true
may_declared true declared own is = ap (λ (b : Bool). not (not b && not own)) is
may_declared false declared own is = refl

-- and what is generated and isn't declared, if it is the rule's own
pub may_own : (generated declared own : Bool) → generated ≡ true → declared ≡ false → not (generated && not declared && not own) ≡ own
may_own generated declared own made undeclared = (λ i. not (made i && not (undeclared i) && not own)) ∙ twice own
  where
    twice : (b : Bool) → not (not b) ≡ b
    twice true = refl
    twice false = refl
