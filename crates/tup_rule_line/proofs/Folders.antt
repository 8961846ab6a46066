-- Words that name folders, and files in folders.
use Rattle.std.proofs.Common.{◌≡◌, inl, inr, ℕ, ◌+◌, ◌-◌, ◌<◌, Bool, true, false, cond, eqb, leb, ltb, not, if◌then◌else◌, List, [], ◌∷◌, ◌++◌, length, take, drop, Option, Some, None, Result, Ok, Err, slice_get, get_or, MatchOption, IfSome, refl, sym, ap, ◌∙◌, arith, length-drop}
use Rattle.std.specs.Prelude.{◌==◌}
use Rattle.std.specs.List.{IsLastAndRest}
use Rattle.std.proofs.lemmas.List.{take_all, take_at, nil_from_length}
use Rattle.std.proofs.lemmas.Bool.{ne_eqb}
use Rattle.std.proofs.lemmas.Bool.Decides.{nat_tests}
use Rattle.bstr.specs.Find.{NoneAfter, Nowhere, Passes, is_byte}
use Rattle.tup_path.specs.Name.{Names}
use Rattle.tup_path.specs.Order.{same_path}
use Rattle.tup_path.specs.Gives.{GivesUnless}
use Rattle.tup_path.specs.Resolve.{is_visible, below, resolve}
use Rattle.tup_lex.specs.Word.{last_name}
use Rattle.tup_lex.proofs.Names.{last_name-after, last_name-whole}
use Rattle.tup_lex.specs.declared.kind.ParseKind.{ParseKind}
use Rattle.tup_path.specs.declared.fault.PathFault.{PathFault}
use Rattle.tup_path.specs.declared.fault.PathFault.TheVariants as path_kept
use Rattle.tup_query.specs.Reads.{gives}
use Rattle.tup_query.specs.Spot.{Spot}
use Rattle.tup_query.specs.Text.{taken}
use Rattle.tup_rule_line.specs.Folder.{name_in, front_of, led_to_folder}
use Rattle.tup_rule_line.specs.Output.{says_what_to_build, is_reserved}
use Rattle.tup_query.specs.Went.{Gives}

-- ---- the last name of a word
pub last_slash_name : (word : List ℕ) (found : Option ℕ) → MatchOption found (Nowhere (Passes (is_byte 47) word) 0 (length word)) (λ slash. NoneAfter (Passes (is_byte 47) word) 0 (length word) slash × Passes (is_byte 47) word slash)
    → MatchOption found (last_name word ≡ word) (λ slash. last_name word ≡ drop (slash + 1) word)
last_slash_name word None h = sym (last_name-whole word h)
last_slash_name word (Some slash) h = sym (last_name-after word slash h) ∙ take_all (length word - (slash + 1)) (drop (slash + 1) word) (omega (arith, length-drop (slash + 1) word))

pub last_slash_at : (word : List ℕ) (found : Option ℕ) → MatchOption found (Nowhere (Passes (is_byte 47) word) 0 (length word)) (λ slash. NoneAfter (Passes (is_byte 47) word) 0 (length word) slash × Passes (is_byte 47) word slash)
    → IfSome found (λ slash. (slash < length word) × (get_or word slash 0 ≡ 47))
last_slash_at word None h = tt
last_slash_at word (Some slash) h = let there : eqb (get_or word slash 0) 47 ≡ true = h.1 in (h.0.high, grind (arith, nat_tests))

pub front_some : (word : List ℕ) (slash : ℕ) → slash < length word → last_name word ≡ drop (slash + 1) word → front_of word ≡ Some (take slash word)
front_some word slash within e =
    let n : length (last_name word) ≡ length word - (slash + 1) = ap length e ∙ length-drop (slash + 1) word in
    let other : eqb (length (last_name word)) (length word) ≡ false = ne_eqb (length (last_name word)) (length word) (λ same. omega arith) in
    let at : length word - (length (last_name word) + 1) ≡ slash = omega arith in
    ap (λ b. cond b None (Some (take (length word - (length (last_name word) + 1)) word))) other ∙ ap (λ k. Some (take k word)) at

-- ---- files in folders
last_of : (folder : Names) (name : List ℕ) → slice_get (folder ++ name ∷ []) (length folder) ≡ Some name
last_of [] name = refl
last_of (first ∷ folder) name = last_of folder name

abbrev by_name : Names → Names → Option (List ℕ) → Option (List ℕ)
by_name dir rest found = elim found as (λ _. Option (List ℕ)) [ Some name ↦ cond (same_path dir rest) (Some name) None | None ↦ None ]

pub name_in_some : (dir path folder : Names) (name : List ℕ) → IsLastAndRest path name folder → name_in dir path ≡ (if same_path dir folder then Some name else None)
name_in_some dir path folder name is =
    let n : length path - 1 ≡ length folder = omega (arith, is.1) in
    let there : slice_get path (length path - 1) ≡ Some name = ap (λ k. slice_get path k) n ∙ ap (λ p. slice_get p (length folder)) is.0 ∙ last_of folder name in
    let rest : take (length path - 1) path ≡ folder = ap (λ k. take k path) n ∙ ap (λ p. take (length folder) p) is.0 ∙ take_at folder (name ∷ []) (length folder) refl in
    ap (by_name dir (take (length path - 1) path)) there ∙ ap (λ r. cond (same_path dir r) (Some name) None) rest

pub name_in_none : (dir path : Names) → length path ≡ 0 → name_in dir path ≡ None
name_in_none dir path e = ap (name_in dir) (nil_from_length path e)

-- a path that says what to build
abbrev by_last : ℕ → Option (List ℕ) → Bool
by_last last found = elim found as (λ _. Bool) [ Some name ↦ says_what_to_build (last == 0) name | None ↦ false ]

pub reserved_some : (path folder : Names) (name : List ℕ) → IsLastAndRest path name folder → is_reserved path ≡ says_what_to_build (length folder == 0) name
reserved_some path folder name is =
    let n : length path - 1 ≡ length folder = omega (arith, is.1) in
    let there : slice_get path (length path - 1) ≡ Some name = ap (λ k. slice_get path k) n ∙ ap (λ p. slice_get p (length folder)) is.0 ∙ last_of folder name in
    ap (by_last (length path - 1)) there ∙ ap (λ k. says_what_to_build (k == 0) name) n

pub reserved_none : (path : Names) → length path ≡ 0 → is_reserved path ≡ false
reserved_none path e = ap is_reserved (nil_from_length path e)

-- ---- the folder of a word
pub folder_none : (at : Spot) (kind : ParseKind) (word : List ℕ) (copy : Names) → front_of word ≡ None → copy ≡ at.dir → Gives (led_to_folder at kind word) (Ok copy)
unfolding taken
folder_none at kind word copy none same =
    ap (λ (front : Option (List ℕ)). taken at (λ (fault : PathFault). kind) (elim front as (λ _. Result Names PathFault) [ Some front ↦ resolve at.dir front | None ↦ Ok at.dir ])) none
    ∙ ap (λ (dir : Names). gives dir) (sym same)

-- ---- paths
pub below-ok : (dir : Names) (name : List ℕ) (path : Names) → GivesUnless (Ok path) path_kept.Memory (below dir name) → path ≡ dir ++ name ∷ []
below-ok dir name path (inl e) = absurd (cc)
below-ok dir name path (inr e) = by (ltb 255 (length name)) (not (is_visible name)) (leb 32 (length dir)) e
  where
    by : (long hidden deep : Bool) → Ok path ≡ cond long (Err path_kept.TooLong) (cond hidden (Err path_kept.Hidden) (cond deep (Err path_kept.TooLong) (Ok (dir ++ name ∷ [])))) → path ≡ dir ++ name ∷ []
    by true hidden deep e = absurd (cc)
    by false true deep e = absurd (cc)
    by false false true e = absurd (cc)
    by false false false e = cc
