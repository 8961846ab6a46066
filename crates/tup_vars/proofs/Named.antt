-- the settings of a text, part by part
use Rattle.std.proofs.Common.{◌≡◌, ℕ, eqb, Bool, true, false, List, [], ◌∷◌, ◌++◌, Option, Some, None, refl, sym, ap, ◌∙◌, append_assoc, append-nil}
use Rattle.std.specs.List.{filter_map, cons_option}
use Rattle.std.proofs.lemmas.List.Elements.{filter_map-append}
use Rattle.tup_vars.specs.Segments.{Plain, Open, HasNoBracket, marked, opened, closed, last, segments}
use Rattle.tup_vars.specs.Asked.{asked_name, closed_name, setting_names}
use Rattle.tup_vars.proofs.Joined.{segments-closed, segments-last}

names_closed : (part : List ℕ) → filter_map asked_name (closed part) ≡ cons_option (closed_name part) []
names_closed part = by (opened part)
  where
    by : (found : Option (List ℕ × ℕ × List ℕ))
        → filter_map asked_name (elim found [ Some (front, mark, name) ↦ Plain front ∷ marked mark name ∷ [] | None ↦ Plain part ∷ Plain (41 ∷ []) ∷ [] ])
        ≡ cons_option (elim found [ Some (front, mark, name) ↦ asked_name (marked mark name) | None ↦ None ]) []
    by (Some (front, mark, name)) = refl
    by None = refl

names_last : (part : List ℕ) → filter_map asked_name (last part) ≡ []
names_last part = by (opened part)
  where
    by : (found : Option (List ℕ × ℕ × List ℕ))
        → filter_map asked_name (elim found [ Some (front, mark, name) ↦ Plain front ∷ Open (mark ∷ 40 ∷ name) ∷ [] | None ↦ Plain part ∷ [] ]) ≡ []
    by (Some (front, mark, name)) = refl
    by None = refl

-- a text is its first closed part, and the rest
pub names_first : (rest part more : List ℕ) → rest ≡ part ++ 41 ∷ more → HasNoBracket part → setting_names rest ≡ cons_option (closed_name part) [] ++ setting_names more
names_first rest part more whole none =
    ap setting_names whole ∙ ap (filter_map asked_name) (segments-closed part more none)
    ∙ filter_map-append asked_name (closed part) (segments more) ∙ ap (λ first. first ++ setting_names more) (names_closed part)

-- nothing is asked behind the last closing bracket
pub names_end : (rest : List ℕ) → HasNoBracket rest → setting_names rest ≡ []
names_end rest none = ap (filter_map asked_name) (segments-last rest none) ∙ names_last rest
