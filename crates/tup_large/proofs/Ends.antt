-- Turns that ended: the lines of one more, and the status of all but the last.
use Rattle.std.proofs.Common.{◌≡◌, ◌<◌, ◌+◌, ◌++◌, ℕ, List, [], ◌∷◌, length, drop, drop-cons, add-one, get_or, refl, sym, ap, ◌∙◌}
use Rattle.std.proofs.lemmas.List.{append_assoc}
use Rattle.tup_top.specs.declared.status.Status.{Status}
use Rattle.tup_history.specs.declared.turn.End.{End}
use Rattle.tup_large.specs.Shown.{line_at, ends_lines, of_end, first_other}

-- the line of the turn at a place, and what is shown of those after it
pub one_ended : (ends : List End) (at : ℕ) (end : End) → at < length ends → end ≡ get_or ends at end → ends_lines at (drop at ends) ≡ line_at at end.status ++ ends_lines (at + 1) (drop (at + 1) ends)
one_ended ends at end within is =
    let next : drop at ends ≡ end ∷ drop (at + 1) ends =
    drop-cons ends at end within ∙ ap (λ (n : ℕ). get_or ends at end ∷ drop n ends) (sym (add-one at)) ∙ ap (λ (e : End). e ∷ drop (at + 1) ends) (sym is) in
    ap (ends_lines at) next

-- a text more
pub one_more : (text line rest whole new : List ℕ) → text ++ (line ++ rest) ≡ whole → new ≡ text ++ line → new ++ rest ≡ whole
one_more text line rest whole new is one = ap (λ (l : List ℕ). l ++ rest) one ∙ append_assoc text line rest ∙ is

-- the first other status of turns is that of all but the last, before what the last comes to
last_first : (front : List End) (end : End) (later : Status) → first_other (front ++ end ∷ []) later ≡ first_other front (of_end end.status later)
last_first [] end later = refl
last_first (first ∷ front) end later = ap (of_end first.status) (last_first front end later)

pub without_last : (ends front : List End) (end : End) (later : Status) → ends ≡ front ++ end ∷ [] → first_other front (of_end end.status later) ≡ first_other ends later
without_last ends front end later is = sym (last_first front end later) ∙ ap (λ (l : List End). first_other l later) (sym is)

pub of_none : (ends : List End) (later : Status) → ends ≡ [] → later ≡ first_other ends later
of_none ends later none = ap (λ (l : List End). first_other l later) (sym none)
