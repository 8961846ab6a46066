-- How the work on the folders goes on.
use Rattle.std.proofs.Common.{◌≡◌, inl, inr, ◌+◌, ◌-◌, ◌<◌, ◌≤◌, Bool, true, false, cond, not, ◌&&◌, ◌||◌, List, [], ◌∷◌, ◌++◌, length, T, Option, Some, None, Ok, Err, IsTrue, IsSome, is_some, refl, sym, ap, ◌∙◌, subst, arith, length-append}
use Rattle.std.specs.BTreeSet.{contains, IsLowerBound}
use Rattle.std.specs.Cmp.{eq_by_cmp_equiv}
use Rattle.std.specs.FinMap as finite
use Rattle.std.specs.List.{IsDistinct, list_any}
use Rattle.std.specs.Ordering.{eq_by_cmp, is_gt, ordering_reverse}
use Rattle.std.specs.declared.cmp.Ordering.TheVariants.{Less}
use Rattle.std.specs.Prelude.{slice_get}
use Rattle.std.proofs.lemmas.List.{nil_from_length}
use Rattle.std.proofs.lemmas.Bool.{and_parts, not-true, or_cases, or_parts}
use Rattle.tup_path.specs.Name.{Names}
use Rattle.tup_path.specs.Order.{by_names, by_names-total, same_path, same_path-by_names}
use Rattle.tup_path.specs.Tree.{Tree}
use Rattle.tup_path.proofs.Same.{same_path-decides}
use Rattle.tup_rule.specs.Rule.{among}
use Rattle.tup_rule.specs.declared.question.Reading.{Reading}
use Rattle.tup_vars.specs.Table.{Entries}
use Rattle.tup_readings.specs.declared.fault.FoldersFault.TheVariants.{Parse, Circular, Memory}
use Rattle.tup_readings.specs.declared.fault.FoldersFault.{FoldersFault}
use Rattle.tup_readings.specs.declared.work.Work.{Work}
use Rattle.tup_readings.specs.Sources.{has_tupfile}
use Rattle.tup_readings.specs.Answers.{Readings}
use Rattle.tup_readings.specs.Readings.{IsReadingOver, WaitsFor, AreSomeReadings, AreAllReadings, IsLine, IsTurn, AreUnderWay, IsFirstCircle, AreRead}
use Rattle.tup_readings.specs.State.{HasCome, IsWork, IsStart, IsLast, Notes, Begins, BeginsFirst, Closes, from_first, steps_left}
use Rattle.tup_readings.proofs.Below.{last_item, at_last}
use Rattle.tup_readings.proofs.More.{get_more, line_more, turn_more}
use Rattle.tup_readings.proofs.Waits.{IsUnread, awaited_is}
use Rattle.tup_readings.proofs.Lines.{among_push, among_last, distinct_push, distinct_front, last_not_before, split_first, ends_so, line_push, line_front, turn_push, turn_front}

-- ---- tests

one_moves : (w u r s : Bool) → (s ≡ true → w ≡ true) → (w || u || r) ≡ ((w && not s) || (u || s) || r)
one_moves true true r true on = refl
one_moves true false r true on = refl
one_moves false u r true on = let wrong : false ≡ true = on refl in cc
one_moves true u r false on = refl
one_moves false true r false on = refl
one_moves false false r false on = refl

one_comes : (w u s : Bool) (left : Reading) (found : Option Reading) → (w || (u || s) || is_some found) ≡ (w || u || is_some (cond s (Some left) found))
one_comes true u s left found = refl
one_comes false true s left found = refl
one_comes false false true left found = refl
one_comes false false false left found = refl

pub from_test : (b : Bool) → T b → b ≡ true
from_test true h = refl
from_test false h = absurd h

nothing_twice : IsDistinct same_path []
unfolding IsDistinct
nothing_twice = tt

-- whether two paths are the same
pub same_test : (path dir : Names) → eq_by_cmp by_names path dir ≡ same_path dir path
same_test path dir = (eq_by_cmp_equiv by_names-total).symm path dir ∙ sym (same_path-by_names dir path)

-- a set without one of its paths
pub taken_out : (path dir : Names) (before : Bool) → cond (eq_by_cmp by_names path dir) false before ≡ (before && not (same_path dir path))
taken_out path dir before = ap (λ b. cond b false before) (same_test path dir) ∙ either (same_path dir path) before
  where
    either : (b before : Bool) → cond b false before ≡ (before && not b)
    either true true = refl
    either true false = refl
    either false true = refl
    either false false = refl

-- ---- the work

module _ (sources : Tree) (settings : Entries) where
  -- at the start
  pub started : (work : Work) → IsStart sources work → IsWork sources settings work
  started work start = record {
    under_way = record {
      some = ([], start.readings);
      turn = subst (IsTurn sources settings work.readings) (sym start.under_way) tt;
      line = subst (IsLine sources settings work.readings) (sym start.under_way) tt;
    };
    once = subst (IsDistinct same_path) (sym start.under_way) nothing_twice;
    all = λ dir. sym (start.waiting dir) ∙ alone (contains by_names work.waiting dir)
        ∙ ap (λ b. contains by_names work.waiting dir || b || false) (sym (ap (among dir) start.under_way))
        ∙ ap (λ b. contains by_names work.waiting dir || among dir work.under_way.items || b) (sym (ap (λ (r : Option Reading). is_some r) (unread_all dir)));
    not_begun = λ dir waits. (ap (among dir) start.under_way, unread_all dir);
    not_read = λ dir there. unread_all dir;
  }
    where
      alone : (a : Bool) → a ≡ (a || false || false)
      alone true = refl
      alone false = refl

      unread_all : (dir : Names) → finite.get work.readings dir ≡ None
      unread_all dir = ap (λ r. finite.get r dir) start.readings ∙ finite.get-empty by_names dir

  -- once a folder is begun
  pub begun : (old new : Work) (next : Names) → IsWork sources settings old → Begins next old new → AreUnderWay sources settings new.readings new.under_way.items → IsWork sources settings new
  begun old new next work begins under_way = record {
    under_way = under_way;
    once = subst (IsDistinct same_path) (sym begins.under_way) (distinct_push old.under_way.items next work.once (work.not_begun next begins.waited).0);
    all = λ dir. work.all dir
        ∙ one_moves (contains by_names old.waiting dir) (among dir old.under_way.items) (is_some (finite.get old.readings dir)) (same_path dir next) (waited dir)
        ∙ ap (λ b. b || (among dir old.under_way.items || same_path dir next) || is_some (finite.get old.readings dir)) (sym (begins.waiting dir))
        ∙ ap (λ b. contains by_names new.waiting dir || b || is_some (finite.get old.readings dir)) (sym (among_new dir))
        ∙ ap (λ r. contains by_names new.waiting dir || among dir new.under_way.items || is_some (finite.get r dir)) (sym begins.readings);
    not_begun = λ dir waits.
        let both = and_parts (contains by_names old.waiting dir) (not (same_path dir next)) (sym (begins.waiting dir) ∙ waits) in
        let before = work.not_begun dir both.0 in
        let apart : same_path dir next ≡ false = not-true (same_path dir next) both.1 in
        (among_new dir ∙ ap (λ b. b || same_path dir next) before.0 ∙ apart, same_reading dir ∙ before.1);
    not_read = λ dir there. elim (or_cases (among dir old.under_way.items) (same_path dir next) (sym (among_new dir) ∙ there)) [
      | inl before ↦ same_reading dir ∙ work.not_read dir before
      | inr is ↦ same_reading dir ∙ ap (finite.get old.readings) ((same_path-decides dir next).0 is) ∙ (work.not_begun next begins.waited).1
    ];
  }
    where
      waited : (dir : Names) → same_path dir next ≡ true → contains by_names old.waiting dir ≡ true
      waited dir is = ap (contains by_names old.waiting) ((same_path-decides dir next).0 is) ∙ begins.waited

      among_new : (dir : Names) → among dir new.under_way.items ≡ (among dir old.under_way.items || same_path dir next)
      among_new dir = ap (among dir) begins.under_way ∙ among_push dir next old.under_way.items

      same_reading : (dir : Names) → finite.get new.readings dir ≡ finite.get old.readings dir
      same_reading dir = ap (λ r. finite.get r dir) begins.readings

  -- a folder is begun for which the last one waits
  pub goes_on : (old new : Work) (dir next : Names) → IsWork sources settings old → IsLast (Some dir) old → WaitsFor sources settings old.readings dir next → Begins next old new → IsWork sources settings new
  goes_on old new dir next work last waits begins = begun old new next work begins (record {
    some = subst (AreSomeReadings sources settings) (sym begins.readings) work.under_way.some;
    turn = along (IsTurn sources settings) (turn_push sources settings old.readings last.0 dir next (subst (IsTurn sources settings old.readings) last.1 work.under_way.turn));
    line = along (IsLine sources settings) (line_push sources settings old.readings last.0 dir next (subst (IsLine sources settings old.readings) last.1 work.under_way.line) waits);
  })
    where
      along : (P : Readings → List Names → Type 0) → P old.readings ((last.0 ++ dir ∷ []) ++ next ∷ []) → P new.readings new.under_way.items
      along P h =
          subst (λ r. P r new.under_way.items) (sym begins.readings)
          (subst (P old.readings) (sym begins.under_way) (subst (λ (u : List Names). P old.readings (u ++ next ∷ [])) (sym last.1) h))

  -- the first of those that waited is begun, where none is under way
  begun_first : (old new : Work) (next : Names) → old.under_way.items ≡ [] → Begins next old new → IsLowerBound by_names old.waiting next → IsWork sources settings old → IsWork sources settings new
  begun_first old new next none begins least work = begun old new next work begins (record {
    some = subst (AreSomeReadings sources settings) (sym begins.readings) work.under_way.some;
    turn = subst (λ r. IsTurn sources settings r new.under_way.items) (sym begins.readings) (subst (IsTurn sources settings old.readings) (sym under_way) turn);
    line = subst (IsLine sources settings new.readings) (sym under_way) tt;
  })
    where
      under_way : new.under_way.items ≡ next ∷ []
      under_way = begins.under_way ∙ ap (λ (u : List Names). u ++ next ∷ []) none

      turn : (dir : Names) → IsTrue (has_tupfile sources dir) → by_names dir next ≡ Less → IsSome (finite.get old.readings dir)
      turn dir has less = by (contains by_names old.waiting dir) refl
        where
          greater : is_gt (by_names next dir) ≡ true
          greater = ap is_gt (by_names-total.antisymm next dir ∙ ap ordering_reverse less)

          by : (b : Bool) → contains by_names old.waiting dir ≡ b → IsSome (finite.get old.readings dir)
          by true waits = let wrong : true ≡ false = sym greater ∙ least dir waits in cc
          by false waits =
              let all : (contains by_names old.waiting dir || among dir old.under_way.items || is_some (finite.get old.readings dir)) ≡ true = sym (work.all dir) ∙ has in
              sym (ap (λ b. b || among dir old.under_way.items || is_some (finite.get old.readings dir)) waits
              ∙ ap (λ (u : List Names). among dir u || is_some (finite.get old.readings dir)) none) ∙ all

  pub readied : (old new : Work) → BeginsFirst old new → IsWork sources settings old → IsWork sources settings new
  readied old new (inl same) work = subst (IsWork sources settings) (sym same.0) work
  readied old new (inr begins) work = begun_first old new begins.1.0 begins.0 begins.1.1 begins.1.2 work

  -- the reading of the last one is noted
  pub noted : (old new : Work) (dir : Names) (left : Reading) → IsWork sources settings old → Notes dir left old new → IsReadingOver sources settings old.readings dir left → IsWork sources settings new
  noted old new dir left work notes over = record {
    under_way = record {
      some = subst (AreSomeReadings sources settings) (sym notes.readings) (dir ∷ work.under_way.some.0, (old.readings, left, work.under_way.some.1, has, is_new, over, refl));
      turn = subst (λ r. IsTurn sources settings r new.under_way.items) (sym notes.readings)
          (turn_more sources settings old.readings dir left is_new has new.under_way.items (turn_front sources settings old.readings new.under_way.items dir (subst (IsTurn sources settings old.readings) notes.under_way work.under_way.turn)));
      line = subst (λ r. IsLine sources settings r new.under_way.items) (sym notes.readings)
          (line_more sources settings old.readings dir left is_new has new.under_way.items (last_not_before new.under_way.items dir once) (line_front sources settings old.readings new.under_way.items dir (subst (IsLine sources settings old.readings) notes.under_way work.under_way.line)));
    };
    once = distinct_front new.under_way.items dir once;
    all = λ other. work.all other
        ∙ ap (λ b. contains by_names old.waiting other || b || is_some (finite.get old.readings other)) (among_old other)
        ∙ one_comes (contains by_names old.waiting other) (among other new.under_way.items) (same_path other dir) left (finite.get old.readings other)
        ∙ ap (λ b. b || among other new.under_way.items || is_some (cond (same_path other dir) (Some left) (finite.get old.readings other))) (sym (waiting other))
        ∙ ap (λ (r : Option Reading). contains by_names new.waiting other || among other new.under_way.items || is_some r) (sym (reading_of other));
    not_begun = λ other waits.
        let before = work.not_begun other (sym (waiting other) ∙ waits) in
        let neither = or_parts (among other new.under_way.items) (same_path other dir) (sym (among_old other) ∙ before.0) in
        (neither.0, unread_still other neither.1 before.1);
    not_read = λ other there.
        unread_still other (apart other there) (work.not_read other (among_old other ∙ ap (λ b. b || same_path other dir) there));
  }
    where
      once : IsDistinct same_path (new.under_way.items ++ dir ∷ [])
      once = subst (IsDistinct same_path) notes.under_way work.once

      there : among dir old.under_way.items ≡ true
      there = ap (among dir) notes.under_way ∙ among_last dir new.under_way.items

      is_new : finite.get old.readings dir ≡ None
      is_new = work.not_read dir there

      on : (a b : Bool) → (a || true || b) ≡ true
      on true b = refl
      on false b = refl

      has : IsTrue (has_tupfile sources dir)
      has = work.all dir ∙ ap (λ b. contains by_names old.waiting dir || b || is_some (finite.get old.readings dir)) there ∙ on (contains by_names old.waiting dir) (is_some (finite.get old.readings dir))

      among_old : (other : Names) → among other old.under_way.items ≡ (among other new.under_way.items || same_path other dir)
      among_old other = ap (among other) notes.under_way ∙ among_push other dir new.under_way.items

      waiting : (other : Names) → contains by_names new.waiting other ≡ contains by_names old.waiting other
      waiting other = ap (list_any (eq_by_cmp by_names other)) notes.waiting

      reading_of : (other : Names) → finite.get new.readings other ≡ cond (same_path other dir) (Some left) (finite.get old.readings other)
      reading_of other = ap (λ r. finite.get r other) notes.readings ∙ get_more old.readings dir left other

      unread_still : (other : Names) → same_path other dir ≡ false → finite.get old.readings other ≡ None → finite.get new.readings other ≡ None
      unread_still other apart none = reading_of other ∙ ap (λ b. cond b (Some left) (finite.get old.readings other)) apart ∙ none

      apart : (other : Names) → among other new.under_way.items ≡ true → same_path other dir ≡ false
      apart other there = by (same_path other dir) refl
        where
          by : (b : Bool) → same_path other dir ≡ b → same_path other dir ≡ false
          by false is = is
          by true is =
              let wrong : true ≡ false = sym there ∙ ap (λ d. among d new.under_way.items) ((same_path-decides other dir).0 is) ∙ last_not_before new.under_way.items dir once in
              cc

  -- the last one has a Tupfile
  pub last_has : (work : Work) (dir : Names) → IsWork sources settings work → IsLast (Some dir) work → IsTrue (has_tupfile sources dir)
  last_has work dir is last =
      is.all dir ∙ ap (λ b. contains by_names work.waiting dir || b || is_some (finite.get work.readings dir)) (ap (among dir) last.1 ∙ among_last dir last.0)
      ∙ on (contains by_names work.waiting dir) (is_some (finite.get work.readings dir))
    where
      on : (a b : Bool) → (a || true || b) ≡ true
      on true b = refl
      on false b = refl

  -- its reading ends with a fault
  pub first_fault : (work : Work) (dir : Names) (end : FoldersFault) → IsWork sources settings work → IsLast (Some dir) work → HasCome sources settings work.readings dir (Err end) → AreRead sources settings (Err end)
  first_fault work dir (Parse fault) is last ends =
      record { readings = work.readings; front = last.0; dir = dir; under_way = subst (AreUnderWay sources settings work.readings) last.1 is.under_way; ends = ends }
  first_fault work dir (Circular dirs) is last ends = absurd ends
  first_fault work dir Memory is last ends = tt

  -- where none is left all are read
  pub finished : (work : Work) → IsWork sources settings work → IsLast None work → AreAllReadings sources settings work.readings
  finished work is last = record {
    some = is.under_way.some;
    all = λ dir has.
        sym (ap (λ (keys : List Names). list_any (eq_by_cmp by_names dir) keys || among dir work.under_way.items || is_some (finite.get work.readings dir)) last.0
        ∙ ap (λ (u : List Names). among dir u || is_some (finite.get work.readings dir)) last.1) ∙ sym (is.all dir) ∙ has;
  }

  -- the last one waits for one that is under way
  pub closed : (work : Work) (dir next : Names) (dirs : List Names) → IsWork sources settings work → IsLast (Some dir) work → WaitsFor sources settings work.readings dir next → Closes next work (Circular dirs)
      → IsFirstCircle sources settings dirs
  closed work dir next dirs is last waits closes = record {
    readings = work.readings;
    front = parts.0;
    first = next;
    inner = ends.0;
    last = dir;
    are = dirs_are ∙ ends.1;
    under_way = subst (AreUnderWay sources settings work.readings) whole is.under_way;
    once = subst (IsDistinct same_path) whole is.once;
    closes = waits;
  }
    where
      unread : IsUnread sources work.readings dir next
      unread = (awaited_is sources work.readings dir next waits.question waits.waits).1

      there : among next work.under_way.items ≡ true
      there = by (among next work.under_way.items) (sym
          (ap (λ b. b || among next work.under_way.items || is_some (finite.get work.readings next)) closes.0 ∙ ap (λ (r : Option Reading). among next work.under_way.items || is_some r) unread.none)
          ∙ sym (is.all next) ∙ unread.has)
        where
          by : (b : Bool) → (b || false) ≡ true → b ≡ true
          by true e = refl
          by false e = e

      parts : (front : List Names) × (rest : List Names) × (work.under_way.items ≡ front ++ (next ∷ rest)) × (from_first next work.under_way.items ≡ next ∷ rest)
      parts = split_first next work.under_way.items there

      dirs_are : dirs ≡ next ∷ parts.1
      dirs_are = closes.1 ∙ parts.3

      whole : work.under_way.items ≡ parts.0 ++ dirs
      whole = parts.2 ∙ ap (λ (d : List Names). parts.0 ++ d) (sym dirs_are)

      ends : (inner : List Names) × (next ∷ parts.1 ≡ next ∷ inner ++ dir ∷ [])
      ends = ends_so parts.0 parts.1 last.0 next dir unread.apart (sym parts.2 ∙ last.1)

  pub closes_circle : (work : Work) (dir next : Names) (end : FoldersFault) → IsWork sources settings work → IsLast (Some dir) work → WaitsFor sources settings work.readings dir next → Closes next work end
      → AreRead sources settings (Err end)
  closes_circle work dir next (Circular dirs) is last waits closes = closed work dir next dirs is last waits closes
  closes_circle work dir next (Parse fault) is last waits closes = absurd closes
  closes_circle work dir next Memory is last waits closes = tt

  -- the readings in the order of their paths
  pub all_listed : (work : Work) (list : List (Names × Reading)) → IsWork sources settings work → IsLast None work → list ≡ finite.entries work.readings → AreRead sources settings (Ok list)
  all_listed work list is last listed =
      let up : T (finite.is_sorted by_names list) = subst (λ (l : List (Names × Reading)). T (finite.is_sorted by_names l)) (sym listed) (finite.entries_sorted work.readings) in
      let same : finite.from_sorted {R = by_names} list ≡ work.readings = finite.same_entries_map _ _ (finite.entries-from_sorted by_names list up ∙ listed) in
      (from_test (finite.is_sorted by_names list) up, subst (AreAllReadings sources settings) (sym same) (finished work is last))

-- ---- steps

pub fewer_begun : (old new : Work) (next : Names) → Begins next old new → steps_left new < steps_left old
fewer_begun old new next begins =
    let fewer = begins.fewer in
    let n : length new.under_way.items ≡ length old.under_way.items + 1 = ap length begins.under_way ∙ length-append old.under_way.items (next ∷ []) in
    omega (arith, fewer, n)

pub no_more : (old new : Work) → BeginsFirst old new → steps_left new ≤ steps_left old
no_more old new (inl same) = let e : steps_left new ≡ steps_left old = ap steps_left same.0 in omega (arith, e)
no_more old new (inr begins) = let less = fewer_begun old new begins.1.0 begins.1.1 in omega (arith, less)

-- and no reading more is noted
pub no_reading : (old new : Work) → BeginsFirst old new → new.readings ≡ old.readings
no_reading old new (inl same) = ap (λ (w : Work). w.readings) same.0
no_reading old new (inr begins) = begins.1.1.readings

-- where none is under way then none waits
pub all_done : (old new : Work) → BeginsFirst old new → length new.under_way.items ≡ 0 → IsLast None new
all_done old new (inl same) none = elim same.1 [
  | inl some ↦ let n : length new.under_way.items ≡ length old.under_way.items = ap (λ (w : Work). length w.under_way.items) same.0 in absurd (omega (arith, n))
  | inr all ↦ (ap (λ (w : Work). w.waiting.keys) same.0 ∙ all, nil_from_length new.under_way.items none)
]
all_done old new (inr begins) none =
    let n : length new.under_way.items ≡ length old.under_way.items + 1 = ap length begins.1.1.under_way ∙ length-append old.under_way.items (begins.1.0 ∷ []) in
    absurd (omega (arith, n))

-- the last one under way
pub last_one : (work : Work) (dir : Names) → slice_get work.under_way.items (length work.under_way.items - 1) ≡ Some dir → IsLast (Some dir) work
last_one work dir is = elim (last_item work.under_way.items) [
  | inl none ↦
      let wrong : None ≡ Some dir = ap (λ (u : List Names). slice_get u (length u - 1)) (sym none) ∙ is in
      absurd (not_none dir wrong)
  | inr some ↦
      let n : length (some.0 ++ some.1 ∷ []) - 1 ≡ length some.0 = omega (arith, length-append some.0 (some.1 ∷ [])) in
      let e : Some some.1 ≡ Some dir = sym (at_last some.0 some.1) ∙ ap (slice_get (some.0 ++ some.1 ∷ [])) (sym n) ∙ ap (λ (u : List Names). slice_get u (length u - 1)) (sym some.2) ∙ is in
      let same : some.1 ≡ dir = cc in
      (some.0, some.2 ∙ ap (λ d. some.0 ++ d ∷ []) same)
]
  where
    not_none : (dir : Names) → None ≡ Some dir → ⊥
    not_none dir e = cc
