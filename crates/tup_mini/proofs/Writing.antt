-- The writes of a command, and a map of their places.
use Rattle.std.proofs.Common.{◌≡◌, ℕ, zero, suc, ◌+◌, ◌<◌, Bool, true, false, cond, if◌then◌else◌, List, [], ◌∷◌, ◌++◌, length, get_or, set, Option, None, Some, option_map, Result, Ok, Err, OnErr, is_ok, ◌≤◌, refl, sym, ap, ◌∙◌, subst, inl, inr, ◌⊎◌, arith}
use Rattle.std.proofs.lemmas.Bool.{cases_Bool}
use Rattle.std.proofs.lemmas.List.{get_or_read}
use Rattle.std.proofs.lemmas.Option.{same_Some, none-some, slice_get_read}
use Rattle.std.specs.List.{slice_get}
use Rattle.std.specs.Option.{option_or}
use Rattle.std.specs.BTreeMap.{BTreeMap, get, is_at}
use Rattle.tup_path.specs.Name.{Names, Content}
use Rattle.tup_path.specs.Order.{by_names, same_path, same_path-by_names}
use Rattle.tup_path.proofs.Same.{same_path-decides}
use Rattle.tup_mini.specs.Kept.{Writes, path_of, names, content_of, own_content, rewritten, with_write}
use Rattle.tup_mini.specs.Places.{place_of, HasPlaces}

-- ---- by places

-- what stands at a place, or none
abbrev content_at : Writes → Option ℕ → Option Content
content_at writes (Some at) = option_map (λ (w : List ℕ × Content). w.1) (slice_get writes at)
content_at writes None = None

content_more : (b : Bool) (write : List ℕ × Content) (writes : Writes) (o : Option ℕ) → (if b then Some write.1 else content_at writes o) ≡ content_at (write ∷ writes) (if b then Some 0 else option_map (λ at. suc at) o)
content_more true write writes o = refl
content_more false write writes None = refl
content_more false write writes (Some at) = refl

content_of-place : (dir : Names) (writes : Writes) (path : Names) → content_of dir writes path ≡ content_at writes (place_of dir writes path)
content_of-place dir [] path = refl
content_of-place dir (write ∷ writes) path =
    ap (λ o. if names dir write.0 path then Some write.1 else o) (content_of-place dir writes path)
    ∙ content_more (names dir write.0 path) write writes (place_of dir writes path)

-- the writes with the one at a place rewritten
abbrev set_at : Writes → Option ℕ → List ℕ → Content → Writes
set_at writes None text content = writes ++ (text, content) ∷ []
set_at writes (Some at) text content = set writes at ((get_or writes at (text, content)).0, content)

set_more : (b : Bool) (write : List ℕ × Content) (writes : Writes) (o : Option ℕ) (text : List ℕ) (content : Content)
    → (if b then (write.0, content) ∷ writes else write ∷ set_at writes o text content) ≡ set_at (write ∷ writes) (if b then Some 0 else option_map (λ at. suc at) o) text content
set_more true write writes o text content = refl
set_more false write writes None text content = refl
set_more false write writes (Some at) text content = refl

rewritten-place : (dir : Names) (writes : Writes) (path : Names) (text : List ℕ) (content : Content) → rewritten dir writes path text content ≡ set_at writes (place_of dir writes path) text content
rewritten-place dir [] path text content = refl
rewritten-place dir (write ∷ writes) path text content =
    ap (λ (w : Writes). if names dir write.0 path then (write.0, content) ∷ writes else write ∷ w) (rewritten-place dir writes path text content)
    ∙ set_more (names dir write.0 path) write writes (place_of dir writes path) text content

-- a place is one of the writes
place_within : (dir : Names) (writes : Writes) (path : Names) (at : ℕ) → place_of dir writes path ≡ Some at → at < length writes
place_within dir [] path at here = absurd (none-some at here)
place_within dir (write ∷ writes) path at here = by (names dir write.0 path) (place_of dir writes path) at (λ m. place_within dir writes path m) refl here
  where
    by : (b : Bool) (o : Option ℕ) (n : ℕ) → ((m : ℕ) → place_of dir writes path ≡ Some m → m < length writes) → place_of dir writes path ≡ o → (if b then Some 0 else option_map (λ m. suc m) o) ≡ Some n → n < suc (length writes)
    by true o n rest is e = let z : 0 ≡ n = same_Some 0 n e in omega arith
    by false None n rest is e = absurd (none-some n e)
    by false (Some m) n rest is e = let z : suc m ≡ n = same_Some (suc m) n e in let less : m < length writes = rest m is in omega arith

-- ---- what is looked up

own-path : (dir : Names) (writes : Writes) (text : List ℕ) (path : Names) → Some path ≡ path_of dir text → content_of dir writes path ≡ own_content dir writes text
own-path dir writes text path some = ap (λ (o : Option Names). elim o [ Some found ↦ content_of dir writes found | None ↦ None ]) some

pub own-fresh : (dir : Names) (writes : Writes) (text : List ℕ) (path : Names) → Some path ≡ path_of dir text → place_of dir writes path ≡ None → None ≡ own_content dir writes text
own-fresh dir writes text path some none = sym (content_of-place dir writes path ∙ ap (content_at writes) none) ∙ own-path dir writes text path some

pub own-at : (dir : Names) (writes : Writes) (text : List ℕ) (path : Names) (at : ℕ) (write : List ℕ × Content) → Some path ≡ path_of dir text → place_of dir writes path ≡ Some at → write ≡ get_or writes at write
    → Some write.1 ≡ own_content dir writes text
own-at dir writes text path at write some here is =
    sym (content_of-place dir writes path ∙ ap (content_at writes) here
    ∙ ap (option_map (λ (w : List ℕ × Content). w.1)) (slice_get_read writes (length writes) at write refl (place_within dir writes path at here) is))
    ∙ own-path dir writes text path some

pub within : (dir : Names) (writes : Writes) (places : BTreeMap Names ℕ) (path : Names) (at : ℕ) → HasPlaces dir writes places → get by_names places path ≡ Some at → at < length writes
within dir writes places path at has here = place_within dir writes path at (sym (has.each path) ∙ here)

-- ---- one write more

place-push : (dir : Names) (writes : Writes) (path : Names) (text : List ℕ) (content : Content)
    → place_of dir (writes ++ (text, content) ∷ []) path ≡ option_or (place_of dir writes path) (if names dir text path then Some (length writes) else None)
place-push dir [] path text content = by (names dir text path)
  where
    by : (b : Bool) → (if b then Some 0 else option_map (λ at. suc at) None) ≡ option_or None (if b then Some 0 else None)
    by true = refl
    by false = refl
place-push dir (write ∷ writes) path text content =
    ap (λ o. if names dir write.0 path then Some 0 else option_map (λ at. suc at) o) (place-push dir writes path text content)
    ∙ by (names dir write.0 path) (place_of dir writes path) (names dir text path)
  where
    by : (b : Bool) (o : Option ℕ) (c : Bool) → (if b then Some 0 else option_map (λ at. suc at) (option_or o (if c then Some (length writes) else None)))
        ≡ option_or (if b then Some 0 else option_map (λ at. suc at) o) (if c then Some (suc (length writes)) else None)
    by true o c = refl
    by false (Some at) c = refl
    by false None true = refl
    by false None false = refl

names-none : (dir : Names) (text : List ℕ) (path : Names) → None ≡ path_of dir text → names dir text path ≡ false
names-none dir text path none = ap (λ (o : Option Names). elim o [ Some found ↦ same_path found path | None ↦ false ]) (sym none)

names-some : (dir : Names) (text : List ℕ) (named path : Names) → Some named ≡ path_of dir text → names dir text path ≡ same_path named path
names-some dir text named path some = ap (λ (o : Option Names). elim o [ Some found ↦ same_path found path | None ↦ false ]) (sym some)

-- a text that names no path
pub placed-unnamed : (dir : Names) (writes : Writes) (places : BTreeMap Names ℕ) (text : List ℕ) (content : Content) → None ≡ path_of dir text → HasPlaces dir writes places
    → HasPlaces dir (writes ++ (text, content) ∷ []) places
placed-unnamed dir writes places text content none has = record {
  each = λ path.
      has.each path ∙ sym (place-push dir writes path text content
      ∙ ap (λ b. option_or (place_of dir writes path) (if b then Some (length writes) else None)) (names-none dir text path none)
      ∙ none_or (place_of dir writes path));
}
  where
    none_or : (o : Option ℕ) → option_or o None ≡ o
    none_or (Some at) = refl
    none_or None = refl

with-named : (dir : Names) (writes : Writes) (text : List ℕ) (path : Names) (content : Content) → Some path ≡ path_of dir text → set_at writes (place_of dir writes path) text content ≡ with_write dir writes text content
with-named dir writes text path content some =
    sym (rewritten-place dir writes path text content)
    ∙ ap (λ (o : Option Names). elim o [ Some found ↦ rewritten dir writes found text content | None ↦ writes ++ (text, content) ∷ [] ]) some

-- a path that wasn't written
pub with-fresh : (dir : Names) (writes : Writes) (places : BTreeMap Names ℕ) (text : List ℕ) (path : Names) (content : Content) → path_of dir text ≡ Some path → HasPlaces dir writes places → get by_names places path ≡ None
    → writes ++ (text, content) ∷ [] ≡ with_write dir writes text content
with-fresh dir writes places text path content some has none =
    ap (λ (o : Option ℕ). set_at writes o text content) (sym none ∙ has.each path) ∙ with-named dir writes text path content (sym some)

at_place : (x y : Names) → ((x ≡ y) × (is_at (by_names x) y ≡ true) × (same_path x y ≡ true)) ⊎ ((is_at (by_names x) y ≡ false) × (same_path x y ≡ false))
at_place x y =
    elim (cases_Bool (same_path x y)) [
      | inl same ↦ inl ((same_path-decides x y).0 same, sym (same_path-by_names x y) ∙ same, same)
      | inr apart ↦ inr (sym (same_path-by_names x y) ∙ apart, apart)
    ]

pub placed-fresh : (dir : Names) (writes : Writes) (old new : BTreeMap Names ℕ) (text : List ℕ) (path : Names) (content : Content) → path_of dir text ≡ Some path → HasPlaces dir writes old → get by_names old path ≡ None
    → ((q : Names) → get by_names new q ≡ cond (is_at (by_names path) q) (Some (length writes)) (get by_names old q)) → HasPlaces dir (writes ++ (text, content) ∷ []) new
placed-fresh dir writes old new text path content some has none updates = record {
  each = λ q.
      updates q ∙ elim (at_place path q) [
        | inl same ↦
            let fresh : place_of dir writes q ≡ None = sym (has.each q) ∙ ap (get by_names old) (sym same.0) ∙ none in
            rw (same.1, place-push dir writes q text content, fresh, names-some dir text path q (sym some), same.2) refl
        | inr apart ↦
            rw (apart.0, place-push dir writes q text content, names-some dir text path q (sym some), apart.1) (has.each q ∙ or_none (place_of dir writes q))
      ];
}
  where
    or_none : (o : Option ℕ) → o ≡ option_or o None
    or_none (Some at) = refl
    or_none None = refl

-- ---- a write at its place

place-set : (dir : Names) (writes : Writes) (path : Names) (at : ℕ) (write : List ℕ × Content) (content : Content) → write ≡ get_or writes at write → place_of dir (set writes at (write.0, content)) path ≡ place_of dir writes path
place-set dir [] path at write content is = refl
place-set dir (one ∷ writes) path zero write content is = ap (λ (w : List ℕ × Content). if names dir w.0 path then Some 0 else option_map (λ n. suc n) (place_of dir writes path)) is
place-set dir (one ∷ writes) path (suc at) write content is = ap (λ o. if names dir one.0 path then Some 0 else option_map (λ n. suc n) o) (place-set dir writes path at write content is)

pub placed-again : (dir : Names) (writes : Writes) (places : BTreeMap Names ℕ) (at : ℕ) (write : List ℕ × Content) (content : Content) → write ≡ get_or writes at write → HasPlaces dir writes places
    → HasPlaces dir (set writes at (write.0, content)) places
placed-again dir writes places at write content is has = record { each = λ path. has.each path ∙ sym (place-set dir writes path at write content is) }

pub with-again : (dir : Names) (writes : Writes) (places : BTreeMap Names ℕ) (text : List ℕ) (path : Names) (at : ℕ) (write : List ℕ × Content) (content : Content) → Some path ≡ path_of dir text → HasPlaces dir writes places
    → get by_names places path ≡ Some at → write ≡ get_or writes at write → set writes at (write.0, content) ≡ with_write dir writes text content
with-again dir writes places text path at write content some has here is =
    let there : place_of dir writes path ≡ Some at = sym (has.each path) ∙ here in
    let same : write ≡ get_or writes at (text, content) = get_or_read writes at write (place_within dir writes path at there) is (text, content) in
    ap (λ (w : List ℕ × Content). set writes at (w.0, content)) same
    ∙ ap (λ (o : Option ℕ). set_at writes o text content) (sym there) ∙ with-named dir writes text path content some

-- ---- a push that may fail

pub placed-if : (dir : Names) (writes items : Writes) (places : BTreeMap Names ℕ) (write : List ℕ × Content) (b : Bool) → items ≡ (if b then writes ++ write ∷ [] else writes)
    → HasPlaces dir (writes ++ write ∷ []) places → HasPlaces dir writes places → HasPlaces dir items places
placed-if dir writes items places write true is more same = subst (λ (w : Writes). HasPlaces dir w places) (sym is) more
placed-if dir writes items places write false is more same = subst (λ (w : Writes). HasPlaces dir w places) (sym is) same

-- where there is room it doesn't
pub push_fits : {A E : Type 0} (r : Result A E) (len room : ℕ) → OnErr r (room ≤ len) → len + 1 ≤ room → is_ok r ≡ true
push_fits (Ok value) len room full fits = refl
push_fits (Err e) len room full fits = absurd (omega arith)
