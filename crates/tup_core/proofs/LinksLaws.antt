-- Who reads what the reached rules make: a map of makers and lists of readers, as they are filled.
use Rattle.std.proofs.Common.{◌≡◌, ℕ, zero, suc, ◌+◌, ◌<◌, ◌≤◌, ◌==◌, Bool, true, false, not, ◌&&◌, ◌||◌, cond, eqb, List, [], ◌∷◌, ◌++◌, length, get_or, take, replicate, Option, None, Some, refl, sym, ap, ◌∙◌, subst, inl, inr, arith}
use Rattle.std.specs.Prelude.{Contains, if◌then◌else◌, is_some, nat_lt, slice_get, unwrap_or}
use Rattle.std.specs.BTreeMap.{get, is_at}
use Rattle.std.specs.Map.{lookup}
use Rattle.std.specs.BTreeSet.{BTreeSet, contains}
use Rattle.std.specs.List.{list_any, position, position_or_len}
use Rattle.std.specs.Option.{option_or}
use Rattle.std.specs.Ordering.{eq_by_cmp}
use Rattle.std.proofs.lemmas.Bool.{true≢false, cases_eq, cases_lt, or_cases, or_left, or_right, and_parts, not-true, eq-eqb, eqb-true, ne_eqb, lt-ltb, le-ltb}
use Rattle.std.proofs.lemmas.List.{take_more, length-take-le, length_push}
use Rattle.std.proofs.lemmas.List.Folds.{list_any_at, list_any_more, list_any-append, position_or_len_push}
use Rattle.std.proofs.lemmas.List.Sums.{prefix_len-le-length}
use Rattle.std.proofs.lemmas.Option.{same_Some, none-some, slice_get_within, slice_get-get_or}
use Rattle.tup_path.specs.Name.{Names}
use Rattle.tup_path.specs.Order.{by_names, same_path}
use Rattle.tup_path.proofs.Same.{same_path-decides}
use Rattle.tup_rule.specs.declared.rule.Rule.{Rule}
use Rattle.tup_rule.specs.Makers.{MakerMap, producers_in}
use Rattle.tup_rule.specs.Rule.{among, maker, writes}
use Rattle.tup_rule.proofs.Laws.{maker-Some}
use Rattle.tup_clean.specs.Queue.{count_of, AreBelow, IsNoted}
use Rattle.tup_clean.proofs.Counting.{count_of-take}
use Rattle.tup_clean.proofs.Places.{some_place}
use Rattle.tup_core.specs.Sound.{AreNamersOf}
use Rattle.tup_core.specs.Links.{is_one_of, HasMaker, IsIn, AreRules, IsReachOf, AreNear, AreListed, AreMade, AreUp, HasMakersIn, AddsMakerIn}
use Rattle.tup_core.specs.Waiting.{flag, times}
use Rattle.tup_core.proofs.FilesLaws.{same_key}
use Rattle.tup_core.proofs.WaitingLaws.{makes_one, counts_one, there, entry_of}

-- ---- numbers of rules

pub next_rule : (rules : List Rule) (numbers : List ℕ) (i : ℕ) → AreRules rules numbers → i < length numbers → get_or numbers i 0 < length rules
next_rule rules numbers i are less = are (get_or numbers i 0) (list_any_at (λ number. get_or numbers i 0 == number) numbers i 0 less (eq-eqb (get_or numbers i 0) (get_or numbers i 0) refl))

-- ---- outputs of rules

pub made_none : (rules : List Rule) (set : BTreeSet Names) → set.keys ≡ [] → AreMade rules [] set
made_none rules set none = record {
  all = λ path made. absurd (true≢false (sym made.listed));
  only = λ path found. absurd (true≢false (sym found ∙ ap (list_any (is_at (by_names path))) none));
}

pub made_more : (rules : List Rule) (numbers : List ℕ) (i : ℕ) (item : Rule) (outputs : List Names) (old new : BTreeSet Names) → i < length numbers → get_or numbers i 0 < length rules → item ≡ get_or rules (get_or numbers i 0) item →
    outputs ≡ item.outputs → ((path : Names) → contains by_names new path ≡ (contains by_names old path || among path outputs)) → AreMade rules (take i numbers) old → AreMade rules (take (i + 1) numbers) new
made_more rules numbers i item outputs old new less within is its adds made = record {
  all = λ path one.
      adds path
      ∙ elim (or_cases (is_one_of (take i numbers) one.number) (one.number == get_or numbers i 0) (sym (more one.number) ∙ one.listed)) [
        | inl before ↦ or_left (contains by_names old path) (among path outputs) (made.all path (record { number = one.number; rule = one.rule; listed = before; here = one.here; written = one.written }))
        | inr last ↦
            let same : one.number ≡ get_or numbers i 0 = eqb-true one.number (get_or numbers i 0) last in
            let equal : item ≡ one.rule = same_Some item one.rule (sym placed ∙ ap (slice_get rules) (sym same) ∙ one.here) in
            or_right (contains by_names old path) (among path outputs) (ap (among path) its ∙ ap (λ (r : Rule). writes r path) equal ∙ one.written)
      ];
  only = λ path found. elim (or_cases (contains by_names old path) (among path outputs) (sym (adds path) ∙ found)) [
    | inl before ↦
        let one = made.only path before in
        record {
          number = one.number;
          rule = one.rule;
          listed = more one.number ∙ or_left (is_one_of (take i numbers) one.number) (one.number == get_or numbers i 0) one.listed;
          here = one.here;
          written = one.written;
        }
    | inr last ↦ record {
      number = get_or numbers i 0;
      rule = item;
      listed = more (get_or numbers i 0) ∙ or_right (is_one_of (take i numbers) (get_or numbers i 0)) (get_or numbers i 0 == get_or numbers i 0) (eq-eqb (get_or numbers i 0) (get_or numbers i 0) refl);
      here = placed;
      written = ap (among path) (sym its) ∙ last;
    }
  ];
}
  where
    more : (at : ℕ) → is_one_of (take (i + 1) numbers) at ≡ (is_one_of (take i numbers) at || at == get_or numbers i 0)
    more at = list_any_more (λ number. at == number) numbers i 0 less

    placed : slice_get rules (get_or numbers i 0) ≡ Some item
    placed = slice_get-get_or rules (get_or numbers i 0) item within ∙ ap Some (sym is)

-- ---- one more at the end

-- the first that passes among some and one more
as_found : (k n : ℕ) (b : Bool) → k ≤ n → cond (nat_lt (cond (eqb k n) (n + cond b 0 1) k) (n + 1)) (Some (cond (eqb k n) (n + cond b 0 1) k)) None ≡ option_or (cond (nat_lt k n) (Some k) None) (if b then Some n else None)
as_found k n b le = elim (cases_lt k n) [
  | inl below ↦ rw (ne_eqb k n (omega arith), lt-ltb k n below, lt-ltb k (n + 1) (omega arith)) refl
  | inr above ↦ rw (eq-eqb k n (omega arith), le-ltb k n above) (last b)
]
  where
    last : (b : Bool) → cond (nat_lt (n + cond b 0 1) (n + 1)) (Some (n + cond b 0 1)) None ≡ (if b then Some n else None)
    last true = rw (lt-ltb (n + 0) (n + 1) (omega arith)) (ap Some (omega arith))
    last false = rw (le-ltb (n + 1) (n + 1) (omega arith)) refl

position-push : {A : Type 0} (p : A → Bool) (xs : List A) (y : A) → position p (xs ++ y ∷ []) ≡ option_or (position p xs) (if p y then Some (length xs) else None)
position-push p xs y =
    ap (λ (k : ℕ). cond (nat_lt k (length (xs ++ y ∷ []))) (Some k) None) (position_or_len_push p xs y)
    ∙ ap (λ (n : ℕ). cond (nat_lt (cond (eqb (position_or_len p xs) (length xs)) (length xs + cond (p y) 0 1) (position_or_len p xs)) n) (Some (cond (eqb (position_or_len p xs) (length xs)) (length xs + cond (p y) 0 1) (position_or_len p xs))) None) (length_push xs y)
    ∙ as_found (position_or_len p xs) (length xs) (p y) (prefix_len-le-length (λ x. not (p x)) xs)

-- ---- one output more

same_none : (at : ℕ) (o : Option ℕ) (known : Bool) → o ≡ option_or o (if known && false then Some at else None)
same_none at (Some n) known = refl
same_none at None true = refl
same_none at None false = refl

pub adds_nothing : (set : BTreeSet Names) (at : ℕ) (makers : MakerMap) → AddsMakerIn set [] at makers makers
adds_nothing set at makers = record { each = λ path. same_none at (get by_names makers path) (contains by_names set path) }

pub adds_more : (set : BTreeSet Names) (outputs : List Names) (at i : ℕ) (output : Names) (old middle new : MakerMap) → i < length outputs → output ≡ get_or outputs i output → AddsMakerIn set (take i outputs) at old middle →
    AddsMakerIn set (output ∷ []) at middle new → AddsMakerIn set (take (i + 1) outputs) at old new
adds_more set outputs at i output old middle new less here first next = record {
  each = λ path.
      next.each path ∙ ap (λ (o : Option ℕ). option_or o (if contains by_names set path && among path (output ∷ []) then Some at else None)) (first.each path)
      ∙ by (get by_names old path) (contains by_names set path) (among path (take i outputs)) (same_path path output)
      ∙ ap (λ (b : Bool). option_or (get by_names old path) (if contains by_names set path && b then Some at else None))
      (sym (list_any_more (same_path path) outputs i output less ∙ ap (λ (x : Names). among path (take i outputs) || same_path path x) (sym here)));
}
  where
    by : (o : Option ℕ) (known front same : Bool) → option_or (option_or o (if known && front then Some at else None)) (if known && (same || false) then Some at else None) ≡ option_or o (if known && (front || same) then Some at else None)
    by (Some n) known front same = refl
    by None false front same = refl
    by None true true same = refl
    by None true false true = refl
    by None true false false = refl

-- one that is asked for and has no maker
pub adds_new : (set : BTreeSet Names) (output copy : Names) (at : ℕ) (old new : MakerMap) → (contains by_names set output && not (is_some (get by_names old output))) ≡ true → copy ≡ output →
    ((q : Names) → get by_names new q ≡ cond (eq_by_cmp by_names copy q) (Some at) (get by_names old q)) → AddsMakerIn set (output ∷ []) at old new
adds_new set output copy at old new fresh copied updates = record {
  each = λ path. updates path ∙ ap (λ (b : Bool). cond b (Some at) (get by_names old path)) (same_key copy path ∙ ap (same_path path) copied) ∙ by path (same_path path output) refl;
}
  where
    here : (o : Option ℕ) (known : Bool) → is_some o ≡ false → known ≡ true → Some at ≡ option_or o (if known && true then Some at else None)
    here (Some n) known none up = absurd (true≢false none)
    here None true none up = refl
    here None false none up = absurd (true≢false (sym up))

    by : (path : Names) (b : Bool) → same_path path output ≡ b → cond b (Some at) (get by_names old path) ≡ option_or (get by_names old path) (if contains by_names set path && (b || false) then Some at else None)
    by path false apart = same_none at (get by_names old path) (contains by_names set path)
    by path true same =
        let is = (same_path-decides path output).0 same in
        let both = and_parts (contains by_names set output) (not (is_some (get by_names old output))) fresh in
        here (get by_names old path) (contains by_names set path) (ap (λ (p : Names). is_some (get by_names old p)) is ∙ not-true (is_some (get by_names old output)) both.1) (ap (contains by_names set) is ∙ both.0)

-- one that isn't
pub adds_none : (set : BTreeSet Names) (output : Names) (at : ℕ) (makers : MakerMap) → (contains by_names set output && not (is_some (get by_names makers output))) ≡ false → AddsMakerIn set (output ∷ []) at makers makers
adds_none set output at makers stays = record { each = λ path. by path (same_path path output) refl }
  where
    here : (o : Option ℕ) (known : Bool) → (known && not (is_some o)) ≡ false → o ≡ option_or o (if known && true then Some at else None)
    here (Some n) known old = refl
    here None true old = absurd (true≢false old)
    here None false old = refl

    by : (path : Names) (b : Bool) → same_path path output ≡ b → get by_names makers path ≡ option_or (get by_names makers path) (if contains by_names set path && (b || false) then Some at else None)
    by path false apart = same_none at (get by_names makers path) (contains by_names set path)
    by path true same =
        here (get by_names makers path) (contains by_names set path) (ap (λ (p : Names). contains by_names set p && not (is_some (get by_names makers p))) ((same_path-decides path output).0 same) ∙ stays)

-- ---- one rule more

pub makers_none : (set : BTreeSet Names) (makers : MakerMap) → makers.entries ≡ [] → HasMakersIn set [] makers
makers_none set makers none = record { each = λ path. ap (lookup (is_at (by_names path))) none ∙ by (contains by_names set path) }
  where
    by : (b : Bool) → ◌≡◌ {A = Option ℕ} None (if b then None else None)
    by true = refl
    by false = refl

pub makers_more : (set : BTreeSet Names) (rules : List Rule) (at : ℕ) (rule : Rule) (old new : MakerMap) → HasMakersIn set (take at rules) old → at < length rules → rule ≡ get_or rules at rule → AddsMakerIn set rule.outputs at old new → HasMakersIn set (take (at + 1) rules) new
makers_more set rules at rule old new has less here adds = record {
  each = λ path.
      adds.each path ∙ ap (λ (o : Option ℕ). option_or o (if contains by_names set path && writes rule path then Some at else None)) (has.each path)
      ∙ by (contains by_names set path) (maker path (take at rules)) (writes rule path) ∙ ap (λ (o : Option ℕ). if contains by_names set path then o else None) (sym (step path));
}
  where
    step : (path : Names) → maker path (take (at + 1) rules) ≡ option_or (maker path (take at rules)) (if writes rule path then Some at else None)
    step path =
        ap (maker path) (take_more rules at rule less ∙ ap (λ (r : Rule). take at rules ++ r ∷ []) (sym here)) ∙ position-push (λ (r : Rule). writes r path) (take at rules) rule
        ∙ ap (λ (n : ℕ). option_or (maker path (take at rules)) (if writes rule path then Some n else None)) (length-take-le at rules (omega (arith, less)))

    by : (known : Bool) (o : Option ℕ) (made : Bool) → option_or (if known then o else None) (if known && made then Some at else None) ≡ (if known then option_or o (if made then Some at else None) else None)
    by true o made = refl
    by false o made = refl

-- a rule that makes nothing of it
pub makers_idle : (set : BTreeSet Names) (rules : List Rule) (near : List ℕ) (makers : MakerMap) → AreNamersOf rules (IsIn set) near → (at : ℕ) → at < length rules → (Contains near at → ⊥) → HasMakersIn set (take at rules) makers → HasMakersIn set (take (at + 1) rules) makers
makers_idle set rules near makers namers at within apart has =
    let found = some_place rules at within in
    let is : found.0 ≡ get_or rules at found.0 = same_Some found.0 (get_or rules at found.0) (sym found.1 ∙ slice_get-get_or rules at found.0 within) in
    makers_more set rules at found.0 makers makers has within is
    (record { each = λ path. stays (get by_names makers path) (contains by_names set path) (writes found.0 path) (λ known made. apart (namers.each at found.0 path known found.1 (inr made))) })
  where
    stays : (o : Option ℕ) (known made : Bool) → (known ≡ true → made ≡ true → ⊥) → o ≡ option_or o (if known && made then Some at else None)
    stays (Some n) known made never = refl
    stays None true true never = absurd (never refl refl)
    stays None true false never = refl
    stays None false made never = refl

-- what the map has is the maker of a path
pub made_maker : (set : BTreeSet Names) (rules : List Rule) (makers : MakerMap) (path : Names) (at : ℕ) → HasMakersIn set rules makers → get by_names makers path ≡ Some at → maker path rules ≡ Some at
made_maker set rules makers path at has is = by (contains by_names set path) (sym (has.each path) ∙ is)
  where
    by : (b : Bool) → (if b then maker path rules else None) ≡ Some at → maker path rules ≡ Some at
    by true some = some
    by false none = absurd (none-some at none)

-- and the path is in the set
pub made_known : (set : BTreeSet Names) (rules : List Rule) (makers : MakerMap) → HasMakersIn set rules makers → (path : Names) → HasMaker makers path → IsIn set path
made_known set rules makers has path (at, is) = by (contains by_names set path) (sym (has.each path) ∙ is)
  where
    by : (b : Bool) → (if b then maker path rules else None) ≡ Some at → b ≡ true
    by true some = refl
    by false none = absurd (none-some at none)

pub made_within : (set : BTreeSet Names) (rules : List Rule) (makers : MakerMap) → HasMakersIn set rules makers → (path : Names) (at : ℕ) → get by_names makers path ≡ Some at → at < length rules
made_within set rules makers has path at is = let made = maker-Some rules path at (made_maker set rules makers path at has is) in slice_get_within rules at made.rule made.here

-- ---- lists

in_replicate : (count other : ℕ) (list : List ℕ) → slice_get (replicate count (let none : List ℕ = [] in none)) other ≡ Some list → (at : ℕ) → count_of at list ≡ 0
in_replicate zero other list here at = absurd (none-some list here)
in_replicate (suc count) zero list here at = ap (count_of at) (sym (same_Some [] list here))
in_replicate (suc count) (suc other) list here at = in_replicate count other list here at

pub listed_none : (rules : List Rule) (makers : MakerMap) (lists : List (List ℕ)) (count : ℕ) → lists ≡ replicate count [] → length lists ≡ length rules → AreListed rules makers 0 lists
listed_none rules makers lists count none many = record {
  many = many;
  each = λ at other rule list below. absurd (nothing at below);
  later = λ at other list _ here. in_replicate count other list (ap (λ (l : List (List ℕ)). slice_get l other) (sym none) ∙ here) at;
}
  where
    nothing : (n : ℕ) → n < 0 → ⊥
    nothing n below = omega arith

pub listed_more : (rules : List Rule) (makers : MakerMap) (i : ℕ) (item : Rule) (old new : List (List ℕ)) → AreListed rules makers i old → i < length rules → item ≡ get_or rules i item → IsNoted i (producers_in makers item) old new → AreListed rules makers (i + 1) new
listed_more rules makers i item old new listed less is noted = record {
  many = noted.many ∙ listed.many;
  each = λ at other rule list below here found.
      let was = noted.each other list found in
      let counts = was.2 at in
      elim (cases_eq at i) [
        | inl same ↦
            let none : count_of at was.0 ≡ 0 = listed.later at other was.0 (omega (arith, same)) was.1 in
            let one : ◌≡◌ {A = ℕ} (if i == at then count_of other (producers_in makers item) else 0) (count_of other (producers_in makers item)) = ap (λ (b : Bool). if b then count_of other (producers_in makers item) else 0) (eq-eqb i at (sym same)) in
            let placed : slice_get rules i ≡ Some item = slice_get-get_or rules i item less ∙ ap Some (sym is) in
            let equal : item ≡ rule = same_Some item rule (sym placed ∙ ap (slice_get rules) (sym same) ∙ here) in
            let grown : count_of at list ≡ count_of other (producers_in makers item) = omega (arith, none, one, counts) in
            grown ∙ ap (λ (r : Rule). count_of other (producers_in makers r)) equal
        | inr apart ↦ stays at other list was.0 apart counts ∙ listed.each at other rule was.0 (nearer at apart below) here was.1
      ];
  later = λ at other list past found.
      let was = noted.each other list found in
      stays at other list was.0 (λ same. behind at same past) (was.2 at) ∙ listed.later at other was.0 (omega (arith, past)) was.1;
}
  where
    nearer : (n : ℕ) → (n ≡ i → ⊥) → n < i + 1 → n < i
    nearer n apart below = omega arith

    behind : (n : ℕ) → n ≡ i → i + 1 ≤ n → ⊥
    behind n same past = omega arith

    stays : (at other : ℕ) (list before : List ℕ) → (at ≡ i → ⊥) → count_of at list ≡ count_of at before + (if i == at then count_of other (producers_in makers item) else 0) → count_of at list ≡ count_of at before
    stays at other list before apart counts =
        let none : ◌≡◌ {A = ℕ} (if i == at then count_of other (producers_in makers item) else 0) 0 = ap (λ (b : Bool). if b then count_of other (producers_in makers item) else 0) (ne_eqb i at (λ same. apart (sym same))) in
        omega (arith, none, counts)

-- a rule that declares nothing of the map
pub listed_idle : (rules : List Rule) (near : List ℕ) (makers : MakerMap) (lists : List (List ℕ)) → AreNamersOf rules (HasMaker makers) near → (at : ℕ) → at < length rules → (Contains near at → ⊥) → AreListed rules makers at lists → AreListed rules makers (at + 1) lists
listed_idle rules near makers lists namers at within apart listed =
    let found = some_place rules at within in
    let is : found.0 ≡ get_or rules at found.0 = same_Some found.0 (get_or rules at found.0) (sym found.1 ∙ slice_get-get_or rules at found.0 within) in
    listed_more rules makers at found.0 lists lists listed within is
    (record { many = refl; each = λ other list here. (list, here, λ k. stays (count_of k list) (count_of other (producers_in makers found.0)) (at == k) (λ some. declares_none found.0 found.1 other some)) })
  where
    declares_none : (rule : Rule) → slice_get rules at ≡ Some rule → (other : ℕ) → 0 < count_of other (producers_in makers rule) → ⊥
    declares_none rule here other some =
        let one = makes_one (λ path. get by_names makers path) (rule.inputs ++ rule.order) other some in
        apart (namers.each at rule one.0 (other, one.2) here (inl (sym (list_any-append (same_path one.0) rule.inputs rule.order) ∙ one.1)))

    stays : (n m : ℕ) (b : Bool) → (0 < m → ⊥) → n ≡ n + (if b then m else 0)
    stays n m true none = elim (cases_lt 0 m) [ inl some ↦ absurd (none some) | inr all ↦ omega (arith, all) ]
    stays n m false none = omega arith

-- what a rule declares, a map finds among the rules
pub producers_within : (makers : MakerMap) (rule : Rule) (bound : ℕ) → ((path : Names) (at : ℕ) → get by_names makers path ≡ Some at → at < bound) → AreBelow (producers_in makers rule) bound
producers_within makers rule bound within at some = let one = makes_one (λ path. get by_names makers path) (rule.inputs ++ rule.order) at some in within one.0 at one.2

-- in the end each list is sound, and those of reached rules are whole
pub near_of : (rules : List Rule) (reached : List Bool) (numbers : List ℕ) (set : BTreeSet Names) (makers : MakerMap) (lists : List (List ℕ)) → IsReachOf rules reached numbers → AreMade rules numbers set → HasMakersIn set rules makers → AreListed rules makers (length rules) lists → AreNear rules reached lists
near_of rules reached numbers set makers lists reach made has listed = record {
  many = listed.many;
  sound = λ other at some. elim (cases_lt at (length rules)) [
    | inr past ↦ absurd (let none = listed.later at other (unwrap_or (slice_get lists other) []) past (there lists other at some) in omega (arith, none, some))
    | inl within ↦
        let found = some_place rules at within in
        let counts = listed.each at other found.0 (unwrap_or (slice_get lists other) []) within found.1 (there lists other at some) in
        let one = makes_one (λ path. get by_names makers path) (found.0.inputs ++ found.0.order) other (subst (λ (n : ℕ). 0 < n) counts some) in
        (found.0, found.1, (one.0, sym (list_any-append (same_path one.0) found.0.inputs found.0.order) ∙ one.1, made_maker set rules makers one.0 other has one.2))
  ];
  first = λ other at rule up here (path, declared, makes).
      let maker_is = maker-Some rules path other makes in
      let within : other < length lists = subst (λ (n : ℕ). other < n) (sym listed.many) (slice_get_within rules other maker_is.rule maker_is.here) in
      let known = made.all path (record { number = other; rule = maker_is.rule; listed = reach.all other up; here = maker_is.here; written = maker_is.writes_it }) in
      let found : get by_names makers path ≡ Some other = has.each path ∙ ap (λ (b : Bool). if b then maker path rules else None) known ∙ makes in
      let some = counts_one (λ p. get by_names makers p) (rule.inputs ++ rule.order) path other (list_any-append (same_path path) rule.inputs rule.order ∙ declared) found in
      subst (λ (n : ℕ). 0 < n) (sym (listed.each at other rule (unwrap_or (slice_get lists other) []) (slice_get_within rules at rule here) here (entry_of lists other within))) some;
}

-- ---- flags of what stands in lists

pub all_up_more : (places : List ℕ) (flags : List Bool) (i place : ℕ) → i < length places → place ≡ get_or places i 0 → flag flags place ≡ true → ((at : ℕ) → 0 < count_of at (take i places) → flag flags at ≡ true) →
    (at : ℕ) → 0 < count_of at (take (i + 1) places) → flag flags at ≡ true
all_up_more places flags i place less here up before at some = elim (cases_eq at place) [
  | inl same ↦ ap (flag flags) same ∙ up
  | inr apart ↦ before at (front (ne_eqb place at (λ same. apart (sym same))))
]
  where
    front : (place == at) ≡ false → 0 < count_of at (take i places)
    front other =
        let sum = count_of-take at places i place less here in
        let none : ◌≡◌ {A = ℕ} (if place == at then 1 else 0) 0 = ap (λ (b : Bool). if b then 1 else 0) other in
        omega (arith, sum, none, some)

pub lists_up_more : (lists : List (List ℕ)) (flags : List Bool) (i : ℕ) (list : List ℕ) → i < length lists → list ≡ unwrap_or (slice_get lists i) [] → ((at : ℕ) → 0 < count_of at list → flag flags at ≡ true) →
    ((other at : ℕ) → other < i → 0 < times lists other at → flag flags at ≡ true) → (other at : ℕ) → other < i + 1 → 0 < times lists other at → flag flags at ≡ true
lists_up_more lists flags i list less is up before other at below some = elim (cases_eq other i) [
  | inl same ↦ up at (subst (λ (l : List ℕ). 0 < count_of at l) (ap (λ (n : ℕ). unwrap_or (slice_get lists n) []) same ∙ sym is) some)
  | inr apart ↦ before other at (nearer other apart below) some
]
  where
    nearer : (n : ℕ) → (n ≡ i → ⊥) → n < i + 1 → n < i
    nearer n apart below = omega arith

pub lists_up : (lists : List (List ℕ)) (flags : List Bool) (count : ℕ) → length lists ≤ count → ((other at : ℕ) → other < count → 0 < times lists other at → flag flags at ≡ true) → AreUp lists flags
lists_up lists flags count past all other at some =
    all other at (let within = slice_get_within lists other (unwrap_or (slice_get lists other) []) (there lists other at some) in omega (arith, within, past)) some
