-- How a walk goes: what it does at each part, and that it goes down by visible names and up by two dots.
use Rattle.std.proofs.Common.{◌&&◌, ◌≡◌, ℕ, suc, ◌+◌, ◌≤◌, ◌<◌, true, false, not, eqb, nat_lt, nat_le, List, [], ◌∷◌, ◌++◌, length, replicate, All, slice_get, Some, Ok, Err, bytes_eq, if◌then◌else◌, refl, ap, sym, ◌∙◌, append_assoc, append-nil, length-append, arith}
use Rattle.std.proofs.lemmas.Bool.{ne_eqb, le-ltb}
use Rattle.std.proofs.lemmas.Bool.Decides.{nat_tests}
use Rattle.std.proofs.lemmas.List.{replicate-append-replicate}
use Rattle.std.proofs.lemmas.Slice.Eq.{bytes_eq-Decides}
use Rattle.std.proofs.lemmas.List.Elements.{All-head, All-tail, All-weaker}
use Rattle.std.proofs.lemmas.List.Sums.{list_all-from_AllPass}
use Rattle.std.specs.List.{list_all}
use Rattle.tup_path.specs.Name.{Names, IsNameByte, IsVisibleName}
use Rattle.tup_path.specs.Resolve.{is_name_byte, is_visible, below, above, step, walk}
use Rattle.tup_path.specs.declared.fault.PathFault.{PathFault}
use Rattle.tup_path.specs.declared.fault.PathFault.TheVariants.{Hidden, TooLong}
use Rattle.tup_path.proofs.Same.{differs}

-- the part that goes up
abbrev pub up : List ℕ
up = 46 ∷ 46 ∷ []

abbrev pub HasNoSlash : List ℕ → Type 0
HasNoSlash part = All (λ b. eqb b 47 ≡ false) part

-- a walk goes on where its first part leads
pub walk_on : (dir next : Names) (part : List ℕ) (more : List (List ℕ)) → step dir part ≡ Ok next → walk dir (part ∷ more) ≡ walk next more
walk_on dir next part more e = ap (λ r. elim r [ Ok there ↦ walk there more | Err fault ↦ Err fault ]) e

-- and ends where it leads nowhere
pub walk_off : (dir : Names) (part : List ℕ) (more : List (List ℕ)) (fault : PathFault) → step dir part ≡ Err fault → walk dir (part ∷ more) ≡ Err fault
walk_off dir part more fault e = ap (λ r. elim r [ Ok there ↦ walk there more | Err fault ↦ Err fault ]) e

-- ---- names and folders

-- the folder that a path lies in
pub above_last : (path : Names) (name : List ℕ) → above (path ++ name ∷ []) ≡ Ok path
above_last [] name = refl
above_last (first ∷ []) name = refl
above_last (first ∷ next ∷ path) name = rw (above_last (next ∷ path) name)

byte_name : (b : ℕ) → IsNameByte b → is_name_byte b ≡ true
byte_name b is = grind (arith, nat_tests)

-- a name of a path passes the test for names
pub visible_again : (name : List ℕ) → IsVisibleName name → is_visible name ≡ true
visible_again [] is = absurd (let one = is.not_empty in omega arith)
visible_again (b ∷ bs) is =
    let all : list_all is_name_byte (b ∷ bs) ≡ true = list_all-from_AllPass is_name_byte (b ∷ bs) (All-weaker IsNameByte (λ b. is_name_byte b ≡ true) byte_name (b ∷ bs) is.bytes) in
    ap (λ t. not t && list_all is_name_byte (b ∷ bs)) (ne_eqb b 46 (λ e. is.not_hidden (ap (λ b. Some b) e))) ∙ all

-- ---- walks down and up

-- a walk goes on where its front leads
pub walk_through : (dir mid front back : Names) → walk dir front ≡ Ok mid → walk dir (front ++ back) ≡ walk mid back
walk_through dir mid [] back e = let here : dir ≡ mid = cc in ap (λ d. walk d back) here
walk_through dir mid (part ∷ front) back e =
    (elim (step dir part) as (λ r. step dir part ≡ r → walk dir (part ∷ (front ++ back)) ≡ walk mid back) [
      | Ok next ↦ λ s. walk_on dir next part (front ++ back) s ∙ walk_through next mid front back (sym (walk_on dir next part front s) ∙ e)
      | Err fault ↦ λ s. absurd (let off : walk dir (part ∷ front) ≡ Err fault = walk_off dir part front fault s in cc)
    ]) refl

-- a visible name leads down, as long as there is room
pub below_visible : (dir : Names) (name : List ℕ) → IsVisibleName name → length dir < 32 → below dir name ≡ Ok (dir ++ name ∷ [])
below_visible dir name is room =
    let short : nat_lt 255 (length name) ≡ false = le-ltb 255 (length name) is.not_long in
    let seen : is_visible name ≡ true = visible_again name is in
    let free : nat_le 32 (length dir) ≡ false = grind (arith, nat_tests) in
    ap (λ t. if t then Err TooLong else if not (is_visible name) then Err Hidden else if nat_le 32 (length dir) then Err TooLong else Ok (dir ++ name ∷ [])) short
    ∙ ap (λ t. if not t then Err Hidden else if nat_le 32 (length dir) then Err TooLong else Ok (dir ++ name ∷ [])) seen
    ∙ ap (λ t. if t then Err TooLong else Ok (dir ++ name ∷ [])) free

pub step_down : (dir : Names) (name : List ℕ) → IsVisibleName name → length dir < 32 → step dir name ≡ Ok (dir ++ name ∷ [])
step_down dir name is room =
    let some : bytes_eq name [] ≡ false = differs _ (bytes_eq-Decides name []) (λ e. let none : length name ≡ 0 = ap length e in let one = is.not_empty in omega arith) in
    let no_dot : bytes_eq name (46 ∷ []) ≡ false = differs _ (bytes_eq-Decides name (46 ∷ [])) (λ e. is.not_hidden (ap (λ n. slice_get n 0) e)) in
    let no_dots : bytes_eq name up ≡ false = differs _ (bytes_eq-Decides name up) (λ e. is.not_hidden (ap (λ n. slice_get n 0) e)) in
    ap (λ t. if t then Ok dir else if bytes_eq name (46 ∷ []) then Ok dir else if bytes_eq name up then above dir else below dir name) some
    ∙ ap (λ t. if t then Ok dir else if bytes_eq name up then above dir else below dir name) no_dot
    ∙ ap (λ t. if t then above dir else below dir name) no_dots
    ∙ below_visible dir name is room

-- names lead down
pub walk_down : (dir names : Names) → All IsVisibleName names → length dir + length names ≤ 32 → walk dir names ≡ Ok (dir ++ names)
walk_down dir [] visible room = ap (λ d. Ok d) (sym (append-nil dir))
walk_down dir (name ∷ names) visible room =
    walk_on dir (dir ++ name ∷ []) name names (step_down dir name (All-head IsVisibleName name names visible) (omega arith))
    ∙ walk_down (dir ++ name ∷ []) names (All-tail IsVisibleName name names visible) (omega (arith, length-append dir (name ∷ [])))
    ∙ ap (λ d. Ok d) (append_assoc dir (name ∷ []) names)

ups_more : (n : ℕ) → replicate (suc n) up ≡ replicate n up ++ up ∷ []
ups_more n = let more : n + 1 ≡ suc n = omega arith in sym (replicate-append-replicate n 1 up ∙ ap (λ k. replicate k up) more)

-- two dots for each name lead up
pub walk_up : (dir rest : Names) → walk (dir ++ rest) (replicate (length rest) up) ≡ Ok dir
walk_up dir [] = ap (λ d. Ok d) (append-nil dir)
walk_up dir (name ∷ rest) =
    let here = dir ++ name ∷ [] in
    ap (λ d. walk d (replicate (suc (length rest)) up)) (sym (append_assoc dir (name ∷ []) rest)) ∙ ap (walk (here ++ rest)) (ups_more (length rest))
    ∙ walk_through (here ++ rest) here (replicate (length rest) up) (up ∷ []) (walk_up here rest) ∙ walk_on here dir up [] (above_last dir name)
