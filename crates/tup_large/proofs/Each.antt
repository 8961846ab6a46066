-- What comes of the numbers below one, and of one number more.
use Rattle.std.proofs.Common.{◌≡◌, ℕ, ◌+◌, List, ◌++◌, add-one, append_assoc, sym, ap, ◌∙◌}
use Rattle.tup_large.specs.Project.{each}

each_more : {A : Type 0} (gives : ℕ → List A) (n : ℕ) → each gives (n + 1) ≡ each gives n ++ gives n
each_more gives n = ap (each gives) (add-one n)

-- a list to which this is added, and then that of the next number
pub one_more : {A : Type 0} (gives : ℕ → List A) (n : ℕ) (start now new : List A) → now ≡ start ++ each gives n → new ≡ now ++ gives n → new ≡ start ++ each gives (n + 1)
one_more {A} gives n start now new is more =
    more ∙ ap (λ (l : List A). l ++ gives n) is ∙ append_assoc start (each gives n) (gives n) ∙ ap (λ (l : List A). start ++ l) (sym (each_more gives n))

-- a list to which this is added, and then that
pub both : {A : Type 0} (start mid end first second : List A) → mid ≡ start ++ first → end ≡ mid ++ second → end ≡ start ++ (first ++ second)
both {A} start mid end first second one two = two ∙ ap (λ (l : List A). l ++ second) one ∙ append_assoc start first second
