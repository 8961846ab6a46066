-- Paths by their folder and their name.
pub use Rattle.tup_rule_line.proofs.Below.{last_item, nothing_below, below_named, not_below_itself, below_through}
use Rattle.std.proofs.Common.{◌≡◌, inl, inr, ℕ, Bool, true, false, cond, ◌||◌, List, [], ◌∷◌, ◌++◌, length, Option, Some, None, refl, sym, ap, ◌∙◌, arith, length-append}
use Rattle.std.specs.Prelude.{slice_get}
use Rattle.std.specs.BTreeSet.{insert_key}
use Rattle.std.specs.List.{cons_option}
use Rattle.std.specs.Result.{result_ok}
use Rattle.std.proofs.lemmas.Bool.{or_left, or_parts, or_right}
use Rattle.std.proofs.lemmas.List.{append-nil}
use Rattle.std.proofs.lemmas.List.Elements.{filter_map-append}
use Rattle.std.proofs.lemmas.List.Folds.{list_any-append}
use Rattle.tup_path.specs.Name.{Names}
use Rattle.tup_path.specs.Order.{by_bytes, same_path}
use Rattle.tup_path.specs.Resolve.{above}
use Rattle.tup_path.proofs.Walks.{above_last}
use Rattle.tup_rule_line.specs.Folder.{name_in}
use Rattle.tup_rule_line.specs.Glob.{names_among, in_order}
use Rattle.tup_rule_line.proofs.Folders.{name_in_some}
use Rattle.tup_rule_line.proofs.Globs.{in_order-more}
use Rattle.tup_readings.specs.Sources.{is_below, has_below, names_in_folder, folder_of}
use Rattle.tup_readings.specs.Index.{or_none}

-- ---- tests

pub or_false : (a : Bool) → (a || false) ≡ a
or_false true = refl
or_false false = refl

-- ---- the last name of a path

pub at_last : {A : Type 0} (front : List A) (last : A) → slice_get (front ++ last ∷ []) (length front) ≡ Some last
at_last [] last = refl
at_last (first ∷ front) last = at_last front last

pub lasts : {A : Type 0} (one other : List A) (x y : A) → one ++ x ∷ [] ≡ other ++ y ∷ [] → x ≡ y
lasts [] [] x y e = cc
lasts [] (z ∷ []) x y e = cc
lasts [] (z ∷ w ∷ other) x y e = cc
lasts (z ∷ []) [] x y e = cc
lasts (z ∷ w ∷ one) [] x y e = cc
lasts (z ∷ one) (w ∷ other) x y e = let rest : one ++ x ∷ [] ≡ other ++ y ∷ [] = cc in lasts one other x y rest

-- a file has its name in its folder alone
pub name_in_named : (dir up : Names) (name : List ℕ) → name_in dir (up ++ name ∷ []) ≡ cond (same_path dir up) (Some name) None
name_in_named dir up name = name_in_some dir (up ++ name ∷ []) up name (refl, omega (arith, length-append up (name ∷ [])))

pub above_named : (up : Names) (name : List ℕ) → result_ok (above (up ++ name ∷ [])) ≡ Some up
above_named up name = ap result_ok (above_last up name)

-- ---- what lies below a folder

pub has_below_through : (dir up : Names) (paths : List Names) → is_below dir up ≡ true → has_below paths up ≡ true → has_below paths dir ≡ true
has_below_through dir up [] over has = has
has_below_through dir up (path ∷ paths) over has =
    (elim (is_below up path) as (λ b. is_below up path ≡ b → (b || has_below paths up) ≡ true → (is_below dir path || has_below paths dir) ≡ true) [
      | true ↦ λ under some. or_left (is_below dir path) (has_below paths dir) (below_through dir up path over under)
      | false ↦ λ under some. or_right (is_below dir path) (has_below paths dir) (has_below_through dir up paths over some)
    ]) refl has

-- what isn't below a folder isn't in it
not_in_it : (dir path : Names) → is_below dir path ≡ false → name_in dir path ≡ None
not_in_it dir path e = elim (last_item path) [
  | inl none ↦ ap (name_in dir) none
  | inr some ↦
      let not_below : is_below dir (some.0 ++ some.1 ∷ []) ≡ false = ap (is_below dir) (sym some.2) ∙ e in
      let apart : same_path dir some.0 ≡ false = (or_parts (same_path dir some.0) (is_below dir some.0) (sym (below_named dir some.0 some.1) ∙ not_below)).0 in
      ap (name_in dir) some.2 ∙ name_in_named dir some.0 some.1 ∙ ap (λ b. cond b (Some some.1) None) apart
]

pub none_in_it : (dir : Names) (paths : List Names) → has_below paths dir ≡ false → names_among dir paths ≡ []
none_in_it dir [] e = refl
none_in_it dir (path ∷ paths) e =
    let here : is_below dir path ≡ false = (or_parts (is_below dir path) (has_below paths dir) e).0 in
    let there : has_below paths dir ≡ false = (or_parts (is_below dir path) (has_below paths dir) e).1 in
    let is : name_in dir path ≡ None = not_in_it dir path here in
    let rest : names_among dir paths ≡ [] = none_in_it dir paths there in
    ap (λ found. cons_option found (names_among dir paths)) is ∙ rest

-- ---- one file more

names_push : (paths : List Names) (dir path : Names) (name : List ℕ) → name_in dir path ≡ Some name
    → names_in_folder (paths ++ path ∷ []) dir ≡ insert_key by_bytes (names_in_folder paths dir) name
names_push paths dir path name is =
    let one : names_among dir (path ∷ []) ≡ name ∷ [] = ap (λ found. cons_option found []) is in
    ap in_order (filter_map-append (name_in dir) paths (path ∷ []) ∙ ap (λ l. names_among dir paths ++ l) one) ∙ in_order-more None (names_among dir paths) (name ∷ [])

names_stay : (paths : List Names) (dir path : Names) → name_in dir path ≡ None → names_in_folder (paths ++ path ∷ []) dir ≡ names_in_folder paths dir
names_stay paths dir path is =
    let one : names_among dir (path ∷ []) ≡ [] = ap (λ found. cons_option found []) is in
    let same : names_among dir paths ++ [] ≡ names_among dir paths = append-nil (names_among dir paths) in
    ap in_order (filter_map-append (name_in dir) paths (path ∷ []) ∙ ap (λ l. names_among dir paths ++ l) one ∙ same)

-- the names of a folder that is in the index only where a file is below it
indexed : (paths : List Names) (dir : Names) → or_none (folder_of paths dir) ≡ names_in_folder paths dir
indexed paths dir = by (has_below paths dir) refl
  where
    by : (b : Bool) → has_below paths dir ≡ b → or_none (cond b (Some (names_in_folder paths dir)) None) ≡ names_in_folder paths dir
    by true e = refl
    by false e = ap in_order (sym (none_in_it dir paths e))

-- what the index says of a folder once it has one file more: first the folders above that of the file are there, then its folder
-- has its name
pub with_file : (paths : List Names) (dir up : Names) (name : List ℕ) →
    cond (same_path dir up)
    (Some (insert_key by_bytes (or_none (cond (is_below dir up) (Some (or_none (folder_of paths dir))) (folder_of paths dir))) name))
    (cond (is_below dir up) (Some (or_none (folder_of paths dir))) (folder_of paths dir))
    ≡ folder_of (paths ++ (up ++ name ∷ []) ∷ []) dir
with_file paths dir up name = by (same_path dir up) refl
  where
    path : Names
    path = up ++ name ∷ []

    any : has_below (paths ++ path ∷ []) dir ≡ (has_below paths dir || is_below dir path)
    any = list_any-append (is_below dir) paths (path ∷ []) ∙ ap (λ b. has_below paths dir || b) (or_false (is_below dir path))

    there : (b : Bool) (names : Option (List (List ℕ))) → or_none (cond b (Some (or_none names)) names) ≡ or_none names
    there true names = refl
    there false names = refl

    by : (s : Bool) → same_path dir up ≡ s → cond s
        (Some (insert_key by_bytes (or_none (cond (is_below dir up) (Some (or_none (folder_of paths dir))) (folder_of paths dir))) name))
        (cond (is_below dir up) (Some (or_none (folder_of paths dir))) (folder_of paths dir))
        ≡ folder_of (paths ++ path ∷ []) dir
    by true s =
        let below : is_below dir path ≡ true = below_named dir up name ∙ ap (λ b. b || is_below dir up) s in
        let is : name_in dir path ≡ Some name = name_in_named dir up name ∙ ap (λ b. cond b (Some name) None) s in
        let all : has_below (paths ++ path ∷ []) dir ≡ true = any ∙ or_right (has_below paths dir) (is_below dir path) below in
        ap (λ l. Some (insert_key by_bytes l name)) (there (is_below dir up) (folder_of paths dir) ∙ indexed paths dir)
        ∙ ap Some (sym (names_push paths dir path name is))
        ∙ ap (λ b. cond b (Some (names_in_folder (paths ++ path ∷ []) dir)) None) (sym all)
    by false s =
        let is : name_in dir path ≡ None = name_in_named dir up name ∙ ap (λ b. cond b (Some name) None) s in
        let same : is_below dir path ≡ is_below dir up = below_named dir up name ∙ ap (λ b. b || is_below dir up) s in
        ap (λ b. cond b (Some (or_none (folder_of paths dir))) (folder_of paths dir)) (sym same)
        ∙ at (is_below dir path) refl (names_stay paths dir path is)
      where
        at : (b : Bool) → is_below dir path ≡ b → names_in_folder (paths ++ path ∷ []) dir ≡ names_in_folder paths dir
            → cond b (Some (or_none (folder_of paths dir))) (folder_of paths dir) ≡ folder_of (paths ++ path ∷ []) dir
        at true below stay =
            ap Some (indexed paths dir ∙ sym stay)
            ∙ ap (λ b. cond b (Some (names_in_folder (paths ++ path ∷ []) dir)) None) (sym (any ∙ or_right (has_below paths dir) (is_below dir path) below))
        at false below stay =
            ap (λ l. cond (has_below paths dir) (Some l) None) (sym stay)
            ∙ ap (λ b. cond b (Some (names_in_folder (paths ++ path ∷ []) dir)) None) (sym (any ∙ ap (λ b. has_below paths dir || b) below ∙ or_false (has_below paths dir)))

-- the top has no name in any folder
pub with_top : (paths : List Names) (dir : Names) → folder_of (paths ++ [] ∷ []) dir ≡ folder_of paths dir
with_top paths dir =
    let any : has_below (paths ++ [] ∷ []) dir ≡ has_below paths dir =
    list_any-append (is_below dir) paths ([] ∷ []) ∙ ap (λ b. has_below paths dir || (b || false)) (nothing_below dir) ∙ or_false (has_below paths dir) in
    ap (λ b. cond b (Some (names_in_folder (paths ++ [] ∷ []) dir)) None) any ∙ ap (λ l. cond (has_below paths dir) (Some l) None) (names_stay paths dir [] refl)
