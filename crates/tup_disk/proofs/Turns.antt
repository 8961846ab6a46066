-- What holds of the element of a loop's turn, or of one that is left, holds of one of all.
use Rattle.std.proofs.Common.{◌≡◌, ◌+◌, List, ◌∷◌, refl, subst, sym, arith}
use Rattle.std.specs.List.{Any}
use Rattle.std.proofs.lemmas.Grind.{common_steps}

module _ {X : Type 0} (P : X → Type 0) where
  Any-here : (x : X) (xs : List X) → P x → Any P (x ∷ xs)
  Any-here x xs holds = (0, x, omega arith, refl, holds)

  Any-there : (x : X) (xs : List X) → Any P xs → Any P (x ∷ xs)
  Any-there x xs (at, y, room, is, holds) = (at + 1, y, grind (arith, common_steps), grind (arith, common_steps), holds)

  -- it is the first of what is left
  module _ (x : X) (left rest all : List X) (is : left ≡ x ∷ rest) (leads : Any P left → Any P all) where
    pub this_turn : P x → Any P all
    this_turn holds = leads (subst (Any P) (sym is) (Any-here x rest holds))

    pub later_turn : Any P rest → Any P all
    later_turn any = leads (subst (Any P) (sym is) (Any-there x rest any))
