-- The stamps of a map's entries, put in one after another, are those that the map has.
use Rattle.std.proofs.Common.{◌≡◌, ◌⊎◌, Bool, true, false, ◌&&◌, cond, T, List, [], ◌∷◌, Option, None, Some, refl, sym, ap, ◌∙◌, inl, inr}
use Rattle.std.specs.Prelude.{if◌then◌else◌}
use Rattle.std.specs.FinMap as finite
use Rattle.std.specs.FinMap.Entries.{find, is_sorted, below_all}
use Rattle.std.specs.Option.{option_or}
use Rattle.std.specs.Ordering.{is_lt, is_eq, eq_by_cmp}
use Rattle.std.specs.declared.cmp.Ordering.{Ordering}
use Rattle.std.specs.declared.cmp.Ordering.TheVariants.{Less, Equal, Greater}
use Rattle.std.proofs.lemmas.Bool.{cases_Bool}
use Rattle.tup_path.specs.Name.{Names}
use Rattle.tup_path.specs.Order.{by_names, same_path, same_path-by_names}
use Rattle.tup_path.proofs.Same.{by_names-decides}
use Rattle.tup_stamp.specs.declared.Stamp.{Stamp}
use Rattle.tup_core.specs.Step.{with_stamps}

lt_case : (o : Ordering) (b : Bool) → T (is_lt o && b) → (is_eq o ≡ false) × T b
lt_case Less b h = (refl, h)
lt_case Equal b h = absurd h
lt_case Greater b h = absurd h

both_case : (a b : Bool) → T (a && b) → T a × T b
both_case true b h = (tt, h)
both_case false b h = absurd h

-- a path before all others isn't among them
below_none : (path : Names) (files : List (Names × Stamp)) → T (below_all by_names path files) → find by_names path files ≡ None
below_none path [] h = refl
below_none path (file ∷ files) h =
    let parts = lt_case (by_names path file.0) (below_all by_names path files) h in
    ap (λ (b : Bool). cond b (Some file.1) (find by_names path files)) parts.0 ∙ below_none path files parts.1

with_sorted : (files : List (Names × Stamp)) (before : Names → Option Stamp) (path : Names) → T (is_sorted by_names files) → with_stamps before files path ≡ option_or (find by_names path files) (before path)
with_sorted [] before path h = refl
with_sorted (file ∷ files) before path h =
    let parts = both_case (below_all by_names file.0 files) (is_sorted by_names files) h in
    with_sorted files (λ p. if same_path p file.0 then Some file.1 else before p) path parts.1 ∙ here parts.0 (cases_Bool (eq_by_cmp by_names path file.0))
  where
    here : T (below_all by_names file.0 files) → ((eq_by_cmp by_names path file.0 ≡ true) ⊎ (eq_by_cmp by_names path file.0 ≡ false))
        → option_or (find by_names path files) (if same_path path file.0 then Some file.1 else before path) ≡ option_or (cond (eq_by_cmp by_names path file.0) (Some file.1) (find by_names path files)) (before path)
    here below (inl same) =
        let is : path ≡ file.0 = (by_names-decides path file.0).0 same in
        let none : find by_names path files ≡ None = ap (λ (p : Names). find by_names p files) is ∙ below_none file.0 files below in
        ap (λ (o : Option Stamp). option_or o (if same_path path file.0 then Some file.1 else before path)) none
        ∙ ap (λ (b : Bool). if b then Some file.1 else before path) (same_path-by_names path file.0 ∙ same)
        ∙ sym (ap (λ (b : Bool). option_or (cond b (Some file.1) (find by_names path files)) (before path)) same)
    here below (inr apart) =
        ap (λ (b : Bool). option_or (find by_names path files) (if b then Some file.1 else before path)) (same_path-by_names path file.0 ∙ apart)
        ∙ sym (ap (λ (b : Bool). option_or (cond b (Some file.1) (find by_names path files)) (before path)) apart)

pub stamps_of_entries : (seen : finite.FinMap by_names Stamp) (path : Names) → with_stamps (λ _. None) (finite.entries seen) path ≡ finite.get seen path
stamps_of_entries seen path = with_sorted (finite.entries seen) (λ _. None) path (finite.entries_sorted seen) ∙ plain (find by_names path (finite.entries seen)) ∙ sym (finite.get-entries seen path)
  where
    plain : (found : Option Stamp) → option_or found None ≡ found
    plain (Some one) = refl
    plain None = refl
