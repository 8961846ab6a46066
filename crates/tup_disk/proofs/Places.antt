-- The place of names, name by name.
use Rattle.std.proofs.Common.{◌≡◌, ℕ, ◌+◌, ◌<◌, List, [], ◌∷◌, ◌++◌, take, length, get_or, refl, ap, sym, ◌∙◌, append_assoc}
use Rattle.std.proofs.lemmas.List.{take_more}
use Rattle.tup_path.specs.Name.{Names}
use Rattle.tup_disk.specs.Place.{place_of, places_to}

-- one name more goes behind a slash
pub place_of-more : (root : List ℕ) (names : Names) (name : List ℕ) → place_of root (names ++ name ∷ []) ≡ place_of root names ++ 47 ∷ name
place_of-more root [] name = refl
place_of-more root (first ∷ names) name = place_of-more (root ++ 47 ∷ first) names name

-- one name more is one place more
pub places_to-more : (root : List ℕ) (names : Names) (name : List ℕ) → places_to root (names ++ name ∷ []) ≡ places_to root names ++ place_of root (names ++ name ∷ []) ∷ []
places_to-more root [] name = refl
places_to-more root (first ∷ names) name = ap (λ more. (root ++ 47 ∷ first) ∷ more) (places_to-more (root ++ 47 ∷ first) names name)

-- a text that is the place of some names, with a slash and the next name behind it, is the place of one more
pub place_step : (root : List ℕ) (names : Names) (at : ℕ) (name old slashed new : List ℕ) → take (at + 1) names ≡ take at names ++ name ∷ []
    → old ≡ place_of root (take at names) → slashed ≡ old ++ 47 ∷ [] → new ≡ slashed ++ name → new ≡ place_of root (take (at + 1) names)
place_step root names at name old slashed new grown was slash more =
    more ∙ ap (λ t. t ++ name) slash ∙ append_assoc old (47 ∷ []) name ∙ ap (λ t. t ++ 47 ∷ name) was
    ∙ sym (place_of-more root (take at names) name) ∙ ap (place_of root) (sym grown)

-- the places of some folders, with that of the next one behind them, are those of one more
pub places_step : (root : List ℕ) (names : Names) (at : ℕ) → at < length names
    → places_to root (take at names) ++ place_of root (take (at + 1) names) ∷ [] ≡ places_to root (take (at + 1) names)
places_step root names at room = rw (take_more names at [] room) (sym (places_to-more root (take at names) (get_or names at [])))
