-- Files that are put into a map one after another, each path's first stamp.
use Rattle.std.specs.Prelude.{◌≡◌, ◌+◌, ◌<◌, ℕ, Bool, true, false, cond, if◌then◌else◌, List, [], ◌∷◌, ◌++◌, length, Option, None, Some, is_some}
use Rattle.std.proofs.Common.{refl, sym, ap, ◌∙◌, take, get_or}
use Rattle.std.specs.Ordering.{eq_by_cmp}
use Rattle.std.specs.FinMap as finite
use Rattle.std.specs.FinMap.{find}
use Rattle.std.proofs.lemmas.Bool.{true≢false}
use Rattle.tup_path.specs.Name.{Names}
use Rattle.tup_path.specs.Order.{by_names, by_names-total, by_names-antisymmetric}
use Rattle.tup_path.proofs.Same.{by_names-decides}
use Rattle.tup_stamp.specs.declared.Stamp.{Stamp}
use Rattle.tup_closure.proofs.Asked.{taken}

-- what is found in a list with one entry more
abbrev pub or_last : Option Stamp → Bool → Stamp → Option Stamp
or_last (Some first) same last = Some first
or_last None same last = cond same (Some last) None

pub find_push : (files : List (Names × Stamp)) (file : Names × Stamp) (q : Names) → find by_names q (files ++ file ∷ []) ≡ or_last (find by_names q files) (eq_by_cmp by_names q file.0) file.1
find_push [] file q = refl
find_push (first ∷ files) file q = either (eq_by_cmp by_names q first.0) (find_push files file q)
  where
    either : (b : Bool) → find by_names q (files ++ file ∷ []) ≡ or_last (find by_names q files) (eq_by_cmp by_names q file.0) file.1 → cond b (Some first.1) (find by_names q (files ++ file ∷ [])) ≡ or_last (cond b (Some first.1) (find by_names q files)) (eq_by_cmp by_names q file.0) file.1
    either true more = refl
    either false more = more

module _ (files : List (Names × Stamp)) (file : Names × Stamp) where
  abbrev before : finite.FinMap by_names Stamp
  before = finite.from_entries files

  -- a path that has a stamp keeps it
  pub stamp_stays : finite.contains_key before file.0 ≡ true → finite.from_entries {R = by_names} (files ++ file ∷ []) ≡ before
  stamp_stays has = finite.same_map by_names-total by_names-antisymmetric _ _ (λ q.
      finite.get-from_entries by_names-total (files ++ file ∷ []) q ∙ find_push files file q
      ∙ same q (find by_names q files) (eq_by_cmp by_names q file.0) refl refl
      ∙ sym (finite.get-from_entries by_names-total files q))
    where
      there : is_some (find by_names file.0 files) ≡ true
      there = ap is_some (sym (finite.get-from_entries by_names-total files file.0)) ∙ has

      same : (q : Names) (found : Option Stamp) (b : Bool) → find by_names q files ≡ found → eq_by_cmp by_names q file.0 ≡ b → or_last found b file.1 ≡ found
      same q (Some first) b is e = refl
      same q None true is e =
          let none : is_some (find by_names file.0 files) ≡ false = ap (λ p. is_some (find by_names p files)) (sym ((by_names-decides q file.0).0 e)) ∙ ap is_some is in
          absurd (true≢false (sym there ∙ none))
      same q None false is e = refl

  -- a path that has none gets it
  pub stamp_comes : finite.contains_key before file.0 ≡ false → finite.from_entries {R = by_names} (files ++ file ∷ []) ≡ finite.insert before file.0 file.1
  stamp_comes none = finite.from_entries_push by_names-total by_names-antisymmetric files file.0 file.1
      (absent (find by_names file.0 files) (ap is_some (sym (finite.get-from_entries by_names-total files file.0)) ∙ none))
    where
      absent : (found : Option Stamp) → is_some found ≡ false → found ≡ None
      absent (Some first) e = absurd (true≢false e)
      absent None e = refl

-- one file more of a list
pub stamp_more : (files : List (Names × Stamp)) (i : ℕ) (file d : Names × Stamp) (old new : finite.FinMap by_names Stamp) → i < length files → file ≡ get_or files i d → old ≡ finite.from_entries (take i files)
    → new ≡ (if finite.contains_key old file.0 then old else finite.insert old file.0 file.1) → new ≡ finite.from_entries (take (i + 1) files)
stamp_more files i file d old new less here so_far is =
    is ∙ ap (λ (m : finite.FinMap by_names Stamp). if finite.contains_key m file.0 then m else finite.insert m file.0 file.1) so_far
    ∙ either (finite.contains_key (finite.from_entries {R = by_names} (take i files)) file.0) refl
    ∙ ap (λ (l : List (Names × Stamp)). finite.from_entries l) (sym (taken files i file d less here))
  where
    either : (b : Bool) → finite.contains_key (finite.from_entries {R = by_names} (take i files)) file.0 ≡ b
        → (if b then finite.from_entries (take i files) else finite.insert (finite.from_entries (take i files)) file.0 file.1) ≡ finite.from_entries {R = by_names} (take i files ++ file ∷ [])
    either true has = sym (stamp_stays (take i files) file has)
    either false none = sym (stamp_comes (take i files) file none)
