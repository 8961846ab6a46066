-- Names joined one after another, and what two paths share.
use Rattle.std.proofs.Common.{take, length-take, ◌<◌, ◌+◌, get_or, drop, length-drop, ◌≡◌, ℕ, ◌≤◌, List, [], ◌∷◌, ◌++◌, length, refl, ap, sym, ◌∙◌, arith, append_assoc, All, inl, inr, Result, Ok, Err, OnOk, is_ok, if◌then◌else◌, ◌⊎◌, length-append}
use Rattle.std.proofs.lemmas.Grind.{common_steps}
use Rattle.std.proofs.lemmas.List.{nil_from_length, take_more}
use Rattle.std.proofs.lemmas.List.Elements.{All-head, All-weaker}
use Rattle.std.specs.List.{join_with_byte}
use Rattle.tup_path.specs.Name.{Names, IsVisibleName, IsPath}
use Rattle.tup_path.specs.Show.{show}
use Rattle.tup_path.specs.Show as specs

pub join_more : (names : Names) (name : List ℕ) → 1 ≤ length names → join_with_byte 47 (names ++ name ∷ []) ≡ join_with_byte 47 names ++ 47 ∷ name
join_more [] name l = absurd (omega arith)
join_more (first ∷ []) name l = refl
join_more (first ∷ next ∷ names) name l = ap (λ rest. first ++ 47 ∷ rest) (join_more (next ∷ names) name (omega arith)) ∙ sym (append_assoc first (47 ∷ join_with_byte 47 (next ∷ names)) (47 ∷ name))

join_nothing : (names : Names) → All (λ name. 1 ≤ length name) names → length (join_with_byte 47 names) ≡ 0 → names ≡ []
join_nothing [] some e = refl
join_nothing (first ∷ []) some e = absurd (let one = All-head (λ name. 1 ≤ length name) first [] some in omega arith)
join_nothing (first ∷ next ∷ names) some e =
    absurd (let one = All-head (λ name. 1 ≤ length name) first (next ∷ names) some in omega (arith, length-append first (47 ∷ join_with_byte 47 (next ∷ names))))

-- one name more behind those that are shown
pub shown_more : (old new name : List ℕ) → ((length old ≡ 0) × (new ≡ old ++ name)) ⊎ ((1 ≤ length old) × (new ≡ (old ++ 47 ∷ []) ++ name))
    → (front : Names) → All (λ name. 1 ≤ length name) front → old ≡ join_with_byte 47 front → new ≡ join_with_byte 47 (front ++ name ∷ [])
shown_more old new name (inl first) front some shown =
    let none : front ≡ [] = join_nothing front some (ap length (sym shown) ∙ first.0) in
    let nothing : old ≡ [] = nil_from_length old (omega arith) in
    rw none (first.1 ∙ ap (λ x. x ++ name) nothing)
shown_more old new name (inr later) front some shown =
    let front_is : 1 ≤ length front = (elim front as (λ f. old ≡ join_with_byte 47 f → 1 ≤ length f) [ [] ↦ λ e. absurd (omega (arith, ap length e)) | f ∷ fs ↦ λ e. omega arith ]) shown in
    later.1 ∙ append_assoc old (47 ∷ []) name ∙ ap (λ x. x ++ 47 ∷ name) shown ∙ sym (join_more front name front_is)

-- the same of a call that adds the name, unless it lacks memory
pub shown_added : {E : Type 0} (result : Result (Unit {0}) E) (old grown new name : List ℕ) → ((length old ≡ 0) × (grown ≡ old)) ⊎ ((1 ≤ length old) × (grown ≡ old ++ 47 ∷ []))
    → new ≡ (if is_ok result then grown ++ name else grown)
    → OnOk result ((front : Names) → All (λ name. 1 ≤ length name) front → old ≡ join_with_byte 47 front → new ≡ join_with_byte 47 (front ++ name ∷ []))
shown_added (Ok done) old grown new name (inl first) e = shown_more old new name (inl (first.0, e ∙ ap (λ x. x ++ name) first.1))
shown_added (Ok done) old grown new name (inr later) e = shown_more old new name (inr (later.0, e ∙ ap (λ x. x ++ name) later.1))
shown_added (Err fault) old grown new name which e = tt

-- what is written is how the names are shown
pub shown_or_dot : (names : Names) (shown text : List ℕ) → All (λ name. 1 ≤ length name) names → shown ≡ join_with_byte 47 names → ((length shown ≡ 0) × (text ≡ 46 ∷ [])) ⊎ ((1 ≤ length shown) × (text ≡ shown)) → text ≡ show names
shown_or_dot names shown text some e (inl nothing) =
    let none : names ≡ [] = join_nothing names some (ap length (sym e) ∙ nothing.0) in
    rw none nothing.1
shown_or_dot [] shown text some e (inr all) = absurd (omega (arith, all.0, ap length e))
shown_or_dot (name ∷ names) shown text some e (inr all) = all.1 ∙ e

pub some_bytes : (path : Names) → IsPath path → All (λ name. 1 ≤ length name) path
some_bytes path is = All-weaker IsVisibleName (λ name. 1 ≤ length name) (λ name visible. visible.not_empty) path is.names

shared_end : (left : Names) → specs.shared left [] ≡ 0
shared_end [] = refl
shared_end (name ∷ left) = refl

pub shared_past : (left right : Names) (n : ℕ) → length right ≤ n → specs.shared (drop n left) (drop n right) ≡ 0
shared_past left right n l =
    let none : drop n right ≡ [] = nil_from_length (drop n right) (omega (arith, length-drop n right)) in
    rw none (shared_end (drop n left))

show_join : (names : Names) → 1 ≤ length names → show names ≡ join_with_byte 47 names
show_join [] some = absurd (omega arith)
show_join (name ∷ names) some = refl

-- the text so far of a loop over all names but the first
pub show_more : (path : Names) (i : ℕ) (name : List ℕ) → i < length (drop 1 path) → name ≡ get_or (drop 1 path) i name → show (take (i + 1) path) ++ 47 ∷ name ≡ show (take (i + 1 + 1) path)
show_more path i name inside is =
    let room : i + 1 < length path = omega (arith, length-drop 1 path) in
    let here : get_or path (i + 1) name ≡ name = grind (arith, common_steps) in
    let front = take (i + 1) path in
    let some : 1 ≤ length front = omega (arith, length-take (i + 1) path) in
    let grown : take (i + 1 + 1) path ≡ front ++ name ∷ [] = take_more path (i + 1) name room ∙ ap (λ n. front ++ n ∷ []) here in
    ap (λ t. t ++ 47 ∷ name) (show_join front some) ∙ sym (join_more front name some)
    ∙ sym (show_join (front ++ name ∷ []) (omega (arith, length-append front (name ∷ [])))) ∙ ap show (sym grown)
