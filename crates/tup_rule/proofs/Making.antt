-- How the makers of paths are found, rule by rule.
use Rattle.std.proofs.Common.{◌≡◌, ℕ, suc, ◌+◌, ◌<◌, nat_lt, Bool, true, false, not, ◌||◌, cond, if◌then◌else◌, List, [], ◌∷◌, ◌++◌, length, take, drop, get_or, Option, None, Some, option_map, refl, sym, ap, ◌∙◌, inl, inr, ◌⊎◌, arith}
use Rattle.std.proofs.lemmas.Bool.{cases_Bool, cases_lt, lt-ltb, le-ltb, false≢true, true≢false}
use Rattle.std.proofs.lemmas.List.{drop_all, drop_more, take_more}
use Rattle.std.proofs.lemmas.List.Elements.{filter_map-append}
use Rattle.std.proofs.lemmas.List.Folds.{list_any_more}
use Rattle.std.specs.List.{position, prefix_len, filter_map, cons_option}
use Rattle.std.specs.BTreeMap.{get, is_at}
use Rattle.tup_path.specs.Name.{Names}
use Rattle.tup_path.specs.Order.{by_names, same_path, same_path-by_names}
use Rattle.tup_path.proofs.Same.{same_path-decides}
use Rattle.tup_rule.specs.declared.rule.Rule.{Rule}
use Rattle.tup_rule.specs.Rule.{among, writes, maker}
use Rattle.tup_rule.specs.Makers.{MakerMap, HasMakers, SetsMaker, producers, makers_in, producers_in}

-- ---- the first that passes, element by element

position-cons : {A : Type 0} (p : A → Bool) (x : A) (xs : List A) → position p (x ∷ xs) ≡ cond (p x) (Some 0) (option_map (λ n. suc n) (position p xs))
position-cons p x xs = by (p x)
  where
    n : ℕ
    n = prefix_len (λ y. not (p y)) xs

    by : (b : Bool) → cond (nat_lt (cond (not b) (1 + prefix_len (λ y. not (p y)) xs) 0) (suc (length xs))) (Some (cond (not b) (1 + prefix_len (λ y. not (p y)) xs) 0)) None
        ≡ cond b (Some 0) (option_map (λ k. suc k) (position p xs))
    by true = rw (lt-ltb 0 (suc (length xs)) (omega arith)) refl
    by false = elim (cases_lt (prefix_len (λ y. not (p y)) xs) (length xs)) [
      | inl below ↦ rw (lt-ltb (1 + prefix_len (λ y. not (p y)) xs) (suc (length xs)) (omega arith), lt-ltb (prefix_len (λ y. not (p y)) xs) (length xs) below) (ap Some (omega arith))
      | inr above ↦ rw (le-ltb (1 + prefix_len (λ y. not (p y)) xs) (suc (length xs)) (omega arith), le-ltb (prefix_len (λ y. not (p y)) xs) (length xs) above) refl
    ]

at_place : (x y : Names) → ((x ≡ y) × (is_at (by_names x) y ≡ true)) ⊎ ((is_at (by_names x) y ≡ false) × (same_path x y ≡ false))
at_place x y =
    elim (cases_Bool (same_path x y)) [
      | inl same ↦ inl ((same_path-decides x y).0 same, sym (same_path-by_names x y) ∙ same)
      | inr apart ↦ inr (sym (same_path-by_names x y) ∙ apart, apart)
    ]

turned : (x y : Names) → same_path x y ≡ false → same_path y x ≡ false
turned x y apart = elim (cases_Bool (same_path y x)) [
  | inl same ↦ absurd (true≢false (sym ((same_path-decides x y).1 (sym ((same_path-decides y x).0 same))) ∙ apart))
  | inr other ↦ other
]

-- ---- one rule more, before those that were noted

-- a map that has the makers among the rules from a place on
abbrev pub HasMakersFrom : List Rule → ℕ → MakerMap → Type 0
HasMakersFrom rules at makers = (path : Names) → get by_names makers path ≡ option_map (λ n. at + n) (maker path (drop at rules))

-- among no rules
pub no_makers : (rules : List Rule) (makers : MakerMap) → ((path : Names) → get by_names makers path ≡ None) → HasMakersFrom rules (length rules) makers
no_makers rules makers none path = none path ∙ sym (ap (λ (l : List Rule). option_map (λ n. length rules + n) (maker path l)) (drop_all (length rules) rules (omega arith)))

pub makers_more : (rules : List Rule) (at : ℕ) (rule : Rule) (old new : MakerMap) → HasMakersFrom rules (at + 1) old → at < length rules → rule ≡ get_or rules at rule → SetsMaker rule.outputs at old new → HasMakersFrom rules at new
makers_more rules at rule old new has less here sets path =
    sets.each path
    ∙ ap (λ (o : Option ℕ). if writes rule path then Some at else o) (has path)
    ∙ by (writes rule path) (maker path (drop (at + 1) rules))
    ∙ ap (option_map (λ n. at + n)) (sym (position-cons (λ (r : Rule). writes r path) rule (drop (at + 1) rules)))
    ∙ ap (λ (l : List Rule). option_map (λ n. at + n) (maker path l)) (sym (drop_more rules at rule less ∙ ap (λ (r : Rule). r ∷ drop (at + 1) rules) (sym here)))
  where
    by : (b : Bool) (o : Option ℕ) → (if b then Some at else option_map (λ n. at + 1 + n) o) ≡ option_map (λ n. at + n) (cond b (Some 0) (option_map (λ n. suc n) o))
    by true o = ap Some (omega arith)
    by false None = refl
    by false (Some n) = ap Some (omega arith)

-- ---- one output more

module _ (outputs : List Names) (at i : ℕ) (output : Names) (old now : MakerMap) (sets : SetsMaker (take i outputs) at old now) (less : i < length outputs) (here : output ≡ get_or outputs i output) where
  among_more : (path : Names) → among path (take (i + 1) outputs) ≡ (among path (take i outputs) || same_path path output)
  among_more path = list_any_more (same_path path) outputs i output less ∙ ap (λ (x : Names). among path (take i outputs) || same_path path x) (sym here)

  pub sets_more : (copy : Names) (new : MakerMap) → copy ≡ output → ((q : Names) → get by_names new q ≡ cond (is_at (by_names copy) q) (Some at) (get by_names now q)) → SetsMaker (take (i + 1) outputs) at old new
  sets_more copy new copied updates = record {
    each = λ path.
        updates path
        ∙ ap (λ (b : Bool). cond b (Some at) (get by_names now path)) (same_key path)
        ∙ ap (λ (o : Option ℕ). cond (same_path path output) (Some at) o) (sets.each path)
        ∙ by (among path (take i outputs)) (same_path path output) (get by_names old path)
        ∙ ap (λ (b : Bool). if b then Some at else get by_names old path) (sym (among_more path));
  }
    where
      same_key : (path : Names) → is_at (by_names copy) path ≡ same_path path output
      same_key path = elim (at_place copy path) [
        | inl same ↦ same.1 ∙ sym ((same_path-decides path output).1 (sym same.0 ∙ copied))
        | inr apart ↦ apart.0 ∙ sym (ap (same_path path) (sym copied) ∙ turned copy path apart.1)
      ]

      by : (front same : Bool) (o : Option ℕ) → cond same (Some at) (if front then Some at else o) ≡ (if front || same then Some at else o)
      by true true o = refl
      by true false o = refl
      by false true o = refl
      by false false o = refl

-- ---- the makers of some paths

pub makers_in-more : (makers : MakerMap) (paths : List Names) (i : ℕ) (path : Names) → i < length paths → path ≡ get_or paths i path → makers_in makers (take (i + 1) paths) ≡ makers_in makers (take i paths) ++ cons_option (get by_names makers path) []
makers_in-more makers paths i path less here =
    ap (makers_in makers) (take_more paths i path less ∙ ap (λ (p : Names). take i paths ++ p ∷ []) (sym here))
    ∙ filter_map-append (λ p. get by_names makers p) (take i paths) (path ∷ [])

pub makers_in-append : (makers : MakerMap) (one other : List Names) → makers_in makers (one ++ other) ≡ makers_in makers one ++ makers_in makers other
makers_in-append makers one other = filter_map-append (λ p. get by_names makers p) one other

pub producers_in-is : (rules : List Rule) (makers : MakerMap) (rule : Rule) → HasMakers rules makers → producers_in makers rule ≡ producers rules rule
producers_in-is rules makers rule has = ap (λ (h : Names → Option ℕ). filter_map h (rule.inputs ++ rule.order)) (λ i path. has.each path i)
