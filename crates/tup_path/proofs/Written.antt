-- What `show_from` writes from a folder, `resolve` reads back from there.
use Rattle.std.proofs.Common.{◌≡◌, ℕ, suc, ◌+◌, ◌-◌, ◌≤◌, true, false, eqb, List, [], ◌∷◌, ◌++◌, length, take, drop, replicate, All, Ok, Err, bytes_eq, if◌then◌else◌, refl, ap, sym, ◌∙◌, take-append-drop, length-append, length-drop, arith}
use Rattle.std.proofs.lemmas.Bool.{ne_eqb}
use Rattle.std.proofs.lemmas.Slice.Eq.{bytes_eq-Decides}
use Rattle.std.proofs.lemmas.List.Elements.{All-nil, All-cons, All-head, All-tail, All-append, All-replicate, All-drop, All-weaker}
use Rattle.std.proofs.lemmas.List.Splits.{slice_split_none, slice_split_at}
use Rattle.std.specs.List.{join_with_byte}
use Rattle.tup_path.specs.Name.{Names, IsNameByte, IsVisibleName, IsPath}
use Rattle.tup_path.specs.Resolve.{parts, walk, resolve}
use Rattle.tup_path.specs.Show.{HasBytes, show, shared, show_from}
use Rattle.tup_path.specs.declared.fault.PathFault.TheVariants.{Outside}
use Rattle.tup_path.proofs.Walks.{up, HasNoSlash, walk_through, walk_down, walk_up}

-- ---- a text of parts is cut into these parts
cut_join : (names : Names) → All HasNoSlash names → 1 ≤ length names → parts (join_with_byte 47 names) ≡ names
cut_join [] slash some = absurd (omega arith)
cut_join (name ∷ []) slash some = slice_split_none (λ b. eqb b 47) name (All-head HasNoSlash name [] slash)
cut_join (name ∷ next ∷ names) slash some =
    slice_split_at (λ b. eqb b 47) name 47 (join_with_byte 47 (next ∷ names)) (All-head HasNoSlash name (next ∷ names) slash) refl
    ∙ ap (λ more. name ∷ more) (cut_join (next ∷ names) (All-tail HasNoSlash name (next ∷ names) slash) (omega arith))

resolve_text : (dir : Names) (b : ℕ) (bs : List ℕ) → eqb b 47 ≡ false → resolve dir (b ∷ bs) ≡ walk dir (parts (b ∷ bs))
resolve_text dir b bs other = ap (λ t. if t then Err Outside else walk dir (parts (b ∷ bs))) other

resolve_join : (dir names : Names) → All HasNoSlash names → All HasBytes names → 1 ≤ length names → resolve dir (join_with_byte 47 names) ≡ walk dir names
resolve_join dir [] slash bytes some = absurd (omega arith)
resolve_join dir ([] ∷ names) slash bytes some = absurd (omega (arith, All-head HasBytes [] names bytes))
resolve_join dir ((b ∷ bs) ∷ []) slash bytes some =
    resolve_text dir b bs (All-head (λ b. eqb b 47 ≡ false) b bs (All-head HasNoSlash (b ∷ bs) [] slash)) ∙ ap (walk dir) (cut_join ((b ∷ bs) ∷ []) slash some)
resolve_join dir ((b ∷ bs) ∷ next ∷ names) slash bytes some =
    resolve_text dir b (bs ++ 47 ∷ join_with_byte 47 (next ∷ names)) (All-head (λ b. eqb b 47 ≡ false) b bs (All-head HasNoSlash (b ∷ bs) (next ∷ names) slash))
    ∙ ap (walk dir) (cut_join ((b ∷ bs) ∷ next ∷ names) slash some)

resolve_show : (dir names : Names) → All HasNoSlash names → All HasBytes names → resolve dir (show names) ≡ walk dir names
resolve_show dir [] slash bytes = refl
resolve_show dir (name ∷ names) slash bytes = resolve_join dir (name ∷ names) slash bytes (omega arith)

-- ---- what two paths share
abbrev IsFront : ℕ → Names → Names → Type 0
IsFront n dir path = (take n dir ≡ take n path) × (n ≤ length dir) × (n ≤ length path)

shared_front : (dir path : Names) → IsFront (shared dir path) dir path
shared_front [] path = (refl, omega arith, omega arith)
shared_front (a ∷ more) [] = (refl, omega arith, omega arith)
shared_front (a ∷ more) (b ∷ others) =
    (elim (bytes_eq a b) as (λ t. bytes_eq a b ≡ t → IsFront (if t then suc (shared more others) else 0) (a ∷ more) (b ∷ others)) [
      | true ↦ λ e. let rest = shared_front more others in let head : a ≡ b = (bytes_eq-Decides a b).0 e in ((λ i. head i ∷ rest.0 i), omega arith, omega arith)
      | false ↦ λ e. (refl, omega arith, omega arith)
    ]) refl

no_slash_in_name : (name : List ℕ) → IsVisibleName name → HasNoSlash name
no_slash_in_name name is = All-weaker IsNameByte (λ b. eqb b 47 ≡ false) (λ b byte. ne_eqb b 47 byte.2) name is.bytes

no_slash_in_up : HasNoSlash up
no_slash_in_up = All-cons (λ b. eqb b 47 ≡ false) 46 (46 ∷ []) refl (All-cons (λ b. eqb b 47 ≡ false) 46 [] refl (All-nil (λ b. eqb b 47 ≡ false)))

walk_from : (dir path : Names) → IsPath path → walk dir (replicate (length dir - shared dir path) up ++ drop (shared dir path) path) ≡ Ok path
walk_from dir path is =
    let n = shared dir path in
    let front = shared_front dir path in
    let here = take n path in
    let rest = drop n dir in
    let split : dir ≡ here ++ rest = sym (take-append-drop n dir) ∙ ap (λ f. f ++ rest) front.0 in
    let count : length dir - n ≡ length rest = omega (arith, length-drop n dir) in
    let climbed : walk dir (replicate (length dir - n) up) ≡ Ok here = ap (λ d. walk d (replicate (length dir - n) up)) split ∙ ap (λ k. walk (here ++ rest) (replicate k up)) count ∙ walk_up here rest in
    let deep : length here + length (drop n path) ≤ 32 = omega (arith, is.depth, length-append here (drop n path), ap length (take-append-drop n path)) in
    walk_through dir here (replicate (length dir - n) up) (drop n path) climbed ∙ walk_down here (drop n path) (All-drop IsVisibleName n path is.names) deep ∙ ap (λ p. Ok p) (take-append-drop n path)

-- ---- the law, from a folder and from the top directory
pub resolve-show_from : (dir path : Names) → IsPath path → resolve dir (show_from dir path) ≡ Ok path
resolve-show_from dir path is =
    let n = shared dir path in
    let ups = replicate (length dir - n) up in
    let down = drop n path in
    resolve_show dir (ups ++ down)
    (All-append HasNoSlash ups down (All-replicate HasNoSlash (length dir - n) up no_slash_in_up) (All-drop HasNoSlash n path (All-weaker IsVisibleName HasNoSlash no_slash_in_name path is.names)))
    (All-append HasBytes ups down (All-replicate HasBytes (length dir - n) up (omega arith)) (All-drop HasBytes n path (All-weaker IsVisibleName HasBytes (λ name visible. visible.not_empty) path is.names)))
    ∙ walk_from dir path is

pub resolve-show : (path : Names) → IsPath path → resolve [] (show path) ≡ Ok path
resolve-show path is = resolve-show_from [] path is
