-- What is told of a list, one after another.
use Rattle.std.proofs.Common.{◌≡◌, ℕ, ◌+◌, ◌<◌, List, [], ◌∷◌, ◌++◌, length, take, get_or, sym, ap, ◌∙◌}
use Rattle.std.specs.List.{flat_map}
use Rattle.std.proofs.lemmas.List.{flat_map_more, take_more}

-- one more
pub told_one_more : {A B : Type 0} (told : A → List B) (list : List A) (at : ℕ) (one : A) → at < length list → get_or list at one ≡ one →
    flat_map told (take at list) ++ told one ≡ flat_map told (take (at + 1) list)
told_one_more {A} {B} told list at one within here =
    flat_map_more told [] (take at list) one
    ∙ ap (flat_map told) (sym (take_more list at one within ∙ ap (λ (o : A). take at list ++ o ∷ []) here))
