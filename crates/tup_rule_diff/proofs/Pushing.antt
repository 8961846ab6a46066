-- Lists that grow at their ends.
use Rattle.std.specs.Prelude.{◌≡◌, List, [], ◌∷◌, ◌++◌, Ok, map}
use Rattle.std.proofs.Common.{sym, ap, ◌∙◌, inl, inr, append_assoc}
use Rattle.std.proofs.lemmas.List.{map-append}
use Rattle.tup_path.specs.Gives.{GivesUnless}

-- what a call gave that wasn't refused
pub given : {T E : Type 0} (value answer : T) (fault : E) → GivesUnless (Ok value) fault (Ok answer) → value ≡ answer
given value answer fault (inl e) = absurd (cc)
given value answer fault (inr e) = cc

module _ {X : Type 0} where
  -- a list behind a list, and another behind that
  pub behind : (start once twice a b : List X) → once ≡ start ++ a → twice ≡ once ++ b → twice ≡ start ++ (a ++ b)
  behind start once twice a b first second = second ∙ ap (λ (l : List X). l ++ b) first ∙ append_assoc start a b

-- one item more, of which a value is read that becomes another
pub item_more : {A B X : Type 0} (read : A → B) (f : B → X) (start so_far new : List X) (items : List A) (item : A) (value : X) → value ≡ f (read item) → so_far ≡ start ++ map f (map read items) → new ≡ so_far ++ value ∷ []
    → new ≡ start ++ map f (map read (items ++ item ∷ []))
item_more {A} {B} {X} read f start so_far new items item value is first second =
    behind start so_far new (map f (map read items)) (value ∷ []) first second
    ∙ ap (λ (v : X). start ++ (map f (map read items) ++ v ∷ [])) is
    ∙ ap (λ (l : List X). start ++ l) (sym (ap (map f) (map-append read items (item ∷ [])) ∙ map-append f (map read items) (read item ∷ [])))
