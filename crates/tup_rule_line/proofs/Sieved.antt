-- Names in order, of which those that fail a test are left out: before they are put in order or after, it is the same.
use Rattle.std.proofs.Common.{◌≡◌, ℕ, Bool, true, false, cond, if◌then◌else◌, List, [], ◌∷◌, fold, filter_map, Option, Some, None, All, refl, sym, ap, ◌∙◌, option_map}
use Rattle.std.specs.List.{filter, cons_option}
use Rattle.std.specs.BTreeSet.{insert_key}
use Rattle.std.specs.FinMap.{slice_cmp-IsAntisymmetric, nat_cmp-IsAntisymmetric}
use Rattle.std.specs.Ordering.{match_ordering, ordering_reverse}
use Rattle.std.specs.declared.cmp.Ordering.{Ordering}
use Rattle.std.specs.declared.cmp.Ordering.TheVariants.{Less, Equal, Greater}
use Rattle.std.proofs.lemmas.Cmp.{nat_list_cmp_total}
use Rattle.std.proofs.lemmas.List.Elements.{All-nil, All-cons, All-head, All-filter, All-weaker}
use Rattle.std.proofs.lemmas.Map.Views.{All-insert_key}
use Rattle.tup_path.specs.Name.{Names}
use Rattle.tup_path.specs.Order.{by_bytes}
use Rattle.tup_glob.specs.declared.symbol.Symbol.{Symbol}
use Rattle.tup_rule_line.specs.declared.found.Input.{Input}
use Rattle.tup_rule_line.specs.Folder.{file_in}
use Rattle.tup_rule_line.specs.Glob.{is_wanted, wanted, in_order, matched_input, matching}

-- each name is before all those behind it
abbrev Ascends : List (List ℕ) → Type 0
Ascends [] = Unit {0}
Ascends (name ∷ names) = All (λ later. by_bytes name later ≡ Less) names × Ascends names

turned : (one other : List ℕ) → by_bytes one other ≡ Greater → by_bytes other one ≡ Less
turned one other is = nat_list_cmp_total.antisymm other one ∙ ap ordering_reverse is

before_all : (name first : List ℕ) (more : List (List ℕ)) → by_bytes name first ≡ Less → All (λ later. by_bytes first later ≡ Less) more → All (λ later. by_bytes name later ≡ Less) (first ∷ more)
before_all name first more less before =
    All-cons (λ later. by_bytes name later ≡ Less) first more less
    (All-weaker (λ later. by_bytes first later ≡ Less) (λ later. by_bytes name later ≡ Less) (λ later is. nat_list_cmp_total.trans name first later less is) more before)

-- ---- a name put among names in order
put_ascends : (names : List (List ℕ)) (name : List ℕ) → Ascends names → Ascends (insert_key by_bytes names name)
put_ascends [] name _ = (All-nil (λ later. by_bytes name later ≡ Less), tt)
put_ascends (first ∷ more) name (before, behind) =
    (elim (by_bytes name first) as (λ o. by_bytes name first ≡ o → Ascends (match_ordering o (name ∷ first ∷ more) (first ∷ more) (first ∷ insert_key by_bytes more name))) [
      | Less ↦ λ less. (before_all name first more less before, (before, behind))
      | Equal ↦ λ same. (before, behind)
      | Greater ↦ λ greater. (All-insert_key by_bytes name (λ later. by_bytes first later ≡ Less) more before (turned name first greater), put_ascends more name behind)
    ]) refl

put_first : (name : List ℕ) (names : List (List ℕ)) → All (λ later. by_bytes name later ≡ Less) names → insert_key by_bytes names name ≡ name ∷ names
put_first name [] all = refl
put_first name (first ∷ more) all =
    ap (λ o. match_ordering o (name ∷ first ∷ more) (first ∷ more) (first ∷ insert_key by_bytes more name)) (All-head (λ later. by_bytes name later ≡ Less) first more all)

-- ---- one name put among them, and then the test
module _ (p : List ℕ → Bool) where
  kept_less : (name first : List ℕ) (more : List (List ℕ)) → by_bytes name first ≡ Less → All (λ later. by_bytes first later ≡ Less) more
      → filter p (name ∷ first ∷ more) ≡ cond (p name) (insert_key by_bytes (filter p (first ∷ more)) name) (filter p (first ∷ more))
  kept_less name first more less before =
      ap (λ (names : List (List ℕ)). cond (p name) names (filter p (first ∷ more)))
      (sym (put_first name (filter p (first ∷ more)) (All-filter p (λ later. by_bytes name later ≡ Less) (first ∷ more) (before_all name first more less before))))

  kept_same : (name first : List ℕ) (more : List (List ℕ)) → by_bytes name first ≡ Equal
      → filter p (first ∷ more) ≡ cond (p name) (insert_key by_bytes (filter p (first ∷ more)) name) (filter p (first ∷ more))
  kept_same name first more is = by (p name) refl
    where
      whole : List (List ℕ)
      whole = filter p (first ∷ more)

      by : (b : Bool) → p name ≡ b → whole ≡ cond b (insert_key by_bytes whole name) whole
      by false fails = refl
      by true passes =
          let same : name ≡ first = slice_cmp-IsAntisymmetric nat_cmp-IsAntisymmetric name first is in
          let shape : whole ≡ first ∷ filter p more = ap (λ b. cond b (first ∷ filter p more) (filter p more)) (ap p (sym same) ∙ passes) in
          let put : insert_key by_bytes (first ∷ filter p more) name ≡ first ∷ filter p more =
          ap (λ o. match_ordering o (name ∷ first ∷ filter p more) (first ∷ filter p more) (first ∷ insert_key by_bytes (filter p more) name)) is in
          shape ∙ sym put ∙ ap (λ (names : List (List ℕ)). insert_key by_bytes names name) (sym shape)

  kept_behind : (name first : List ℕ) (rest more : List (List ℕ)) → by_bytes name first ≡ Greater → (b c : Bool) → rest ≡ cond c (insert_key by_bytes more name) more
      → cond b (first ∷ rest) rest ≡ cond c (insert_key by_bytes (cond b (first ∷ more) more) name) (cond b (first ∷ more) more)
  kept_behind name first rest more is true true same =
      ap (λ (names : List (List ℕ)). first ∷ names) same
      ∙ sym (ap (λ o. match_ordering o (name ∷ first ∷ more) (first ∷ more) (first ∷ insert_key by_bytes more name)) is)
  kept_behind name first rest more is true false same = ap (λ (names : List (List ℕ)). first ∷ names) same
  kept_behind name first rest more is false c same = same

  kept_one : (names : List (List ℕ)) (name : List ℕ) → Ascends names → filter p (insert_key by_bytes names name) ≡ cond (p name) (insert_key by_bytes (filter p names) name) (filter p names)
  kept_one [] name _ = refl
  kept_one (first ∷ more) name (before, behind) =
      (elim (by_bytes name first) as (λ o. by_bytes name first ≡ o → filter p (match_ordering o (name ∷ first ∷ more) (first ∷ more) (first ∷ insert_key by_bytes more name))
      ≡ cond (p name) (insert_key by_bytes (filter p (first ∷ more)) name) (filter p (first ∷ more))) [
        | Less ↦ λ less. kept_less name first more less before
        | Equal ↦ λ same. kept_same name first more same
        | Greater ↦ λ greater. kept_behind name first (filter p (insert_key by_bytes more name)) (filter p more) greater (p first) (p name) (kept_one more name behind)
      ]) refl

  -- ---- all names put in order
  kept_turn : (b : Bool) (name : List ℕ) (some names : List (List ℕ)) → fold (insert_key by_bytes) (cond b (insert_key by_bytes some name) some) names ≡ fold (insert_key by_bytes) some (cond b (name ∷ names) names)
  kept_turn true name some names = refl
  kept_turn false name some names = refl

  kept_all : (some names : List (List ℕ)) → Ascends some → filter p (fold (insert_key by_bytes) some names) ≡ fold (insert_key by_bytes) (filter p some) (filter p names)
  kept_all some [] ascends = refl
  kept_all some (name ∷ names) ascends =
      kept_all (insert_key by_bytes some name) names (put_ascends some name ascends)
      ∙ ap (λ (kept : List (List ℕ)). fold (insert_key by_bytes) kept (filter p names)) (kept_one some name ascends)
      ∙ kept_turn (p name) name (filter p some) (filter p names)

-- ---- what fails the test gives nothing
passed : {X Y : Type 0} (h : X → Option Y) (p : X → Bool) → ((x : X) → p x ≡ false → h x ≡ None) → (xs : List X) → filter_map h (filter p xs) ≡ filter_map h xs
passed h p none [] = refl
passed {X} {Y} h p none (x ∷ xs) = by (p x) refl (passed h p none xs)
  where
    by : (b : Bool) → p x ≡ b → filter_map h (filter p xs) ≡ filter_map h xs → filter_map h (cond b (x ∷ filter p xs) (filter p xs)) ≡ cons_option (h x) (filter_map h xs)
    by true is rest = ap (cons_option (h x)) rest
    by false is rest = rest ∙ sym (ap (λ (o : Option Y). cons_option o (filter_map h xs)) (none x is))

-- the files of a folder that match, of all its names and of those alone that match
pub sieved : (dir : Names) (symbols : List Symbol) (names : List (List ℕ)) → filter_map (matching dir symbols) (in_order (wanted (Some symbols) names)) ≡ filter_map (matching dir symbols) (in_order names)
sieved dir symbols names =
    ap (filter_map (matching dir symbols)) (sym (kept_all (is_wanted (Some symbols)) [] names tt))
    ∙ passed (matching dir symbols) (is_wanted (Some symbols))
    (λ name is. ap (λ b. if b then option_map (matched_input symbols name) (file_in dir name) else None) is) (in_order names)
