-- What all of it comes to.
use Rattle.std.proofs.Common.{◌≡◌, inl, inr, Bool, true, false, cond, not, ◌||◌, T, List, [], ◌∷◌, map, Option, Some, None, is_some, IsSome, Result, Ok, Err, IsTrue, refl, sym, ap, ◌∙◌, subst}
use Rattle.std.specs.Prelude.{filter}
use Rattle.std.specs.FinMap as finite
use Rattle.std.specs.List.{list_any}
use Rattle.std.specs.Ordering.{eq_by_cmp}
use Rattle.std.proofs.lemmas.List.Elements.{All-contains}
use Rattle.std.proofs.lemmas.Bool.{or_cases}
use Rattle.tup_path.specs.Name.{Names}
use Rattle.tup_path.specs.Order.{by_names, by_names-total, same_path, same_path-by_names}
use Rattle.tup_path.specs.Tree.{Tree}
use Rattle.tup_path.proofs.Same.{same_path-decides}
use Rattle.tup_rule.specs.Rule.{among}
use Rattle.tup_rule.specs.declared.question.Reading.{Reading}
use Rattle.tup_vars.specs.Table.{Entries}
use Rattle.tup_vars.specs.declared.fault.ConfigFault.{ConfigFault}
use Rattle.tup_readings.specs.Answers.{Readings}
use Rattle.tup_readings.specs.Readings.{AreReadWith, IsConfig, IsOutcome}
use Rattle.tup_readings.specs.Sources.{has_tupfile, settings_of}
use Rattle.tup_readings.specs.State.{IsLast}
use Rattle.tup_readings.specs.declared.fault.FoldersFault.{FoldersFault}
use Rattle.tup_readings.specs.declared.fault.FoldersFault.TheVariants.{Memory}
use Rattle.tup_readings.proofs.Working.{all_listed, finished, from_test}
use Rattle.tup_graph.specs.Graph.{GraphState, is_created}
use Rattle.tup_graph.specs.Swap.{reading_now}
use Rattle.tup_refresh.specs.declared.refreshed.Refreshed.{Refreshed}
use Rattle.tup_refresh.specs.declared.walk.Walk.{Walk}
use Rattle.tup_refresh.specs.Part.{HasPaths}
use Rattle.tup_refresh.specs.Refresh.{kept_reading, IsDue, gone_among, AreRefreshed, IsRefresh, IsRefreshWith, readings_of}
use Rattle.tup_refresh.specs.Standing.{Stands, AllStand}
use Rattle.tup_refresh.specs.Walk.{IsWalk}
use Rattle.tup_refresh.proofs.Outlined.{tupfile_alike}

-- ---- folders whose Tupfile is gone

-- a path among those that pass a test passes it
passed : (p : Names → Bool) (dir : Names) (paths : List Names) → among dir (filter p paths) ≡ true → p dir ≡ true
passed p dir [] e = cc
passed p dir (path ∷ paths) e = by (p path) refl e (passed p dir paths)
  where
    by : (b : Bool) → p path ≡ b → among dir (cond b (path ∷ filter p paths) (filter p paths)) ≡ true → (among dir (filter p paths) ≡ true → p dir ≡ true) → p dir ≡ true
    by true is found more = elim (or_cases (same_path dir path) (among dir (filter p paths)) found) [
      | inl here ↦ ap p ((same_path-decides dir path).0 here) ∙ is
      | inr later ↦ more later
    ]
    by false is found more = more found

-- and one that does is among them
passes_too : (p : Names → Bool) (dir : Names) (paths : List Names) → among dir paths ≡ true → p dir ≡ true → among dir (filter p paths) ≡ true
passes_too p dir [] there is = there
passes_too p dir (path ∷ paths) there is = by (p path) refl (same_path dir path) refl there (λ found. passes_too p dir paths found is)
  where
    by : (b : Bool) → p path ≡ b → (s : Bool) → same_path dir path ≡ s → (s || among dir paths) ≡ true → (among dir paths ≡ true → among dir (filter p paths) ≡ true) → among dir (cond b (path ∷ filter p paths) (filter p paths)) ≡ true
    by true on true same found more = ap (λ c. c || among dir (filter p paths)) same
    by true on false same found more = ap (λ c. c || among dir (filter p paths)) same ∙ more found
    by false off true same found more =
        let wrong : true ≡ false = sym is ∙ ap p ((same_path-decides dir path).0 same) ∙ off in
        cc
    by false off false same found more = more found

-- a folder of which a reading is kept is among them
kept_among : (readings : Readings) (dir : Names) (left : Reading) → finite.get readings dir ≡ Some left → among dir (map (λ (one : Names × Reading). one.0) (finite.entries readings)) ≡ true
kept_among readings dir left is =
    ap (λ (test : Names → Bool). list_any test (finite.keys readings)) (λ i other. same_path-by_names dir other i)
    ∙ sym (finite.contains_key-keys readings dir) ∙ ap (λ (r : Option Reading). is_some r) is

pub kept_is : (g : GraphState) (dir : Names) (left : Reading) → kept_reading g dir ≡ Some left → finite.get g.readings dir ≡ Some left
kept_is g dir left e = by (is_created g dir) e
  where
    by : (b : Bool) → cond b None (finite.get g.readings dir) ≡ Some left → finite.get g.readings dir ≡ Some left
    by true e = cc
    by false e = e

-- what a map lists stands in the order of its keys
pub listed_up : (m : Readings) (list : List (Names × Reading)) → list ≡ finite.entries m → IsTrue (finite.is_sorted by_names list)
listed_up m list are = from_test (finite.is_sorted by_names list) (subst (λ (l : List (Names × Reading)). T (finite.is_sorted by_names l)) (sym are) (finite.entries_sorted m))

module _ (g : GraphState) (sources : Tree) (settings : Entries) (walk : Walk) (is : IsWalk g sources settings walk) (last : IsLast None walk.work) where
  abbrev now : Readings
  now = walk.work.readings

  -- what has a reading has a Tupfile
  has_one : (dir : Names) (left : Reading) → finite.get now dir ≡ Some left → IsTrue (has_tupfile sources dir)
  has_one dir left e = is.work.all dir ∙ ap (λ (r : Option Reading). contains_waiting dir || among dir walk.work.under_way.items || is_some r) e ∙ on (contains_waiting dir) (among dir walk.work.under_way.items)
    where
      contains_waiting : Names → Bool
      contains_waiting d = list_any (eq_by_cmp by_names d) walk.work.waiting.keys

      on : (a b : Bool) → (a || b || true) ≡ true
      on true b = refl
      on false true = refl
      on false false = refl

  -- what has a Tupfile has a reading
  one_read : (dir : Names) → IsTrue (has_tupfile sources dir) → (left : Reading) × (finite.get now dir ≡ Some left)
  one_read dir has = some (finite.get now dir) ((finished sources settings walk.work is.work last).all dir has)
    where
      some : (found : Option Reading) → IsSome found → (left : Reading) × (found ≡ Some left)
      some (Some left) h = (left, refl)
      some None h = cc

  is_due : (dir : Names) (left : Reading) → finite.get walk.fresh dir ≡ Some left → IsDue g sources settings now dir
  is_due dir left e =
      let read = is.parted.read dir left e in (
        has_one dir left read.0,
        elim read.1 [
          | inl none ↦ inl none
          | inr told ↦ inr (told.0, told.1, (told.2.0, told.2.1, told.2.2.1))
        ],
      )

  is_fresh : (dir : Names) → IsDue g sources settings now dir → IsSome (finite.get walk.fresh dir)
  is_fresh dir due = by (finite.get walk.fresh dir) refl
    where
      one : (left : Reading) × (finite.get now dir ≡ Some left)
      one = one_read dir due.0

      by : (found : Option Reading) → finite.get walk.fresh dir ≡ found → IsSome (finite.get walk.fresh dir)
      by (Some left) e = subst IsSome (sym e) refl
      by None e =
          let kept = is.parted.kept dir one.0 one.1 e in
          absurd (elim due.1 [
            | inl none ↦ not_both (sym none ∙ kept.0)
            | inr told ↦
                let same : told.0 ≡ one.0 = the told.0 one.0 (sym told.1 ∙ kept.0) in
                told.2.2 (All-contains (Stands sources settings now dir) told.0.asked told.2.0 (subst (λ (r : Reading). AllStand sources settings now dir r.asked) (sym same) kept.1) told.2.1).1
          ])
        where
          not_both : {left : Reading} → None ≡ Some left → ⊥
          not_both e = cc

          the : (a b : Reading) → Some a ≡ Some b → a ≡ b
          the a b e = cc

  -- the kept readings with the fresh ones are all
  module _ (given : Refreshed) (all : given.all ≡ finite.entries now) (fresh : given.fresh ≡ finite.entries walk.fresh) (gone : given.gone ≡ gone_among sources (finite.entries g.readings)) where
    up : (m : Readings) (list : List (Names × Reading)) → list ≡ finite.entries m → T (finite.is_sorted by_names list)
    up m list are = subst (λ (l : List (Names × Reading)). T (finite.is_sorted by_names l)) (sym are) (finite.entries_sorted m)

    same : (m : Readings) (list : List (Names × Reading)) → list ≡ finite.entries m → finite.from_sorted {R = by_names} list ≡ m
    same m list are = finite.same_entries_map _ _ (finite.entries-from_sorted by_names list (up m list are) ∙ are)

    fresh_at : (dir : Names) → finite.get (finite.from_entries {R = by_names} given.fresh) dir ≡ finite.get walk.fresh dir
    fresh_at dir =
        finite.get-from_entries by_names-total given.fresh dir ∙ sym (finite.get-from_sorted by_names given.fresh dir (up walk.fresh given.fresh fresh))
        ∙ ap (λ m. finite.get m dir) (same walk.fresh given.fresh fresh)

    no_tupfile : (dir : Names) → among dir given.gone ≡ true → has_tupfile sources dir ≡ false
    no_tupfile dir e = off (has_tupfile sources dir) (passed (λ d. not (has_tupfile sources d)) dir (map (λ (one : Names × Reading). one.0) (finite.entries g.readings)) (sym (ap (among dir) gone) ∙ e))
      where
        off : (b : Bool) → not b ≡ true → b ≡ false
        off true e = cc
        off false e = refl

    is_gone : (dir : Names) (left : Reading) → finite.get g.readings dir ≡ Some left → has_tupfile sources dir ≡ false → among dir given.gone ≡ true
    is_gone dir left e none =
        ap (among dir) gone
        ∙ passes_too (λ d. not (has_tupfile sources d)) dir (map (λ (one : Names × Reading). one.0) (finite.entries g.readings)) (kept_among g.readings dir left e) (ap not none)

    -- where no fresh one is
    not_fresh : (dir : Names) → finite.get walk.fresh dir ≡ None → (b : Bool) → among dir given.gone ≡ b → finite.get now dir ≡ cond b None (finite.get g.readings dir)
    not_fresh dir none true lost = by (finite.get now dir) refl
      where
        by : (found : Option Reading) → finite.get now dir ≡ found → finite.get now dir ≡ None
        by None e = e
        by (Some left) e =
            let wrong : true ≡ false = sym (has_one dir left e) ∙ no_tupfile dir lost in
            cc
    not_fresh dir none false there = by (finite.get now dir) refl (finite.get g.readings dir) refl (has_tupfile sources dir) refl
      where
        by : (found : Option Reading) → finite.get now dir ≡ found → (kept : Option Reading) → finite.get g.readings dir ≡ kept → (has : Bool) → has_tupfile sources dir ≡ has → finite.get now dir ≡ finite.get g.readings dir
        by (Some left) e kept was has tup = e ∙ sym (kept_is g dir left (is.parted.kept dir left e none).0)
        by None e None was has tup = e ∙ sym was
        by None e (Some left) was true tup =
            let one = one_read dir tup in
            let wrong : None ≡ Some one.0 = sym e ∙ one.1 in
            cc
        by None e (Some left) was false tup =
            let wrong : true ≡ false = sym (is_gone dir left was tup) ∙ there in
            cc

    together : (dir : Names) → finite.get now dir ≡ reading_now g given.fresh given.gone dir
    together dir = by (finite.get walk.fresh dir) refl
      where
        given_so : (found : Option Reading) → finite.get walk.fresh dir ≡ found
            → reading_now g given.fresh given.gone dir ≡ elim found as (λ _. Option Reading) [ Some reading ↦ Some reading | None ↦ elim (among dir given.gone) as (λ _. Option Reading) [ true ↦ None | false ↦ finite.get g.readings dir ] ]
        given_so found e =
            ap (λ (found : Option Reading). elim found as (λ _. Option Reading) [ Some reading ↦ Some reading | None ↦ elim (among dir given.gone) as (λ _. Option Reading) [ true ↦ None | false ↦ finite.get g.readings dir ] ]) (fresh_at dir ∙ e)

        lost_or_not : (b : Bool) → cond b None (finite.get g.readings dir) ≡ elim b as (λ _. Option Reading) [ true ↦ None | false ↦ finite.get g.readings dir ]
        lost_or_not true = refl
        lost_or_not false = refl

        by : (found : Option Reading) → finite.get walk.fresh dir ≡ found → finite.get now dir ≡ reading_now g given.fresh given.gone dir
        by (Some left) e = (is.parted.read dir left e).0 ∙ sym (given_so (Some left) e)
        by None e = not_fresh dir e (among dir given.gone) refl ∙ lost_or_not (among dir given.gone) ∙ sym (given_so None e)

    pub are_refreshed : AreRefreshed g sources settings given
    are_refreshed = record {
      read = all_listed sources settings walk.work given.all is.work last all;
      sorted = listed_up walk.fresh given.fresh fresh;
      due = λ dir. (to dir, from dir);
      gone = gone;
      together = λ dir. ap (λ m. finite.get m dir) (same now given.all all) ∙ together dir;
    }
      where
        to : (dir : Names) → IsSome (finite.get (finite.from_sorted {R = by_names} given.fresh) dir) → IsDue g sources settings (finite.from_sorted given.all) dir
        to dir some =
            subst (λ (m : Readings). IsDue g sources settings m dir) (sym (same now given.all all))
            (by (finite.get walk.fresh dir) refl (subst IsSome (ap (λ m. finite.get m dir) (same walk.fresh given.fresh fresh)) some))
          where
            by : (found : Option Reading) → finite.get walk.fresh dir ≡ found → IsSome (finite.get walk.fresh dir) → IsDue g sources settings now dir
            by (Some left) e some = is_due dir left e
            by None e some = let wrong = subst IsSome e some in cc

        from : (dir : Names) → IsDue g sources settings (finite.from_sorted given.all) dir → IsSome (finite.get (finite.from_sorted {R = by_names} given.fresh) dir)
        from dir due =
            subst IsSome (sym (ap (λ m. finite.get m dir) (same walk.fresh given.fresh fresh)))
            (is_fresh dir (subst (λ (m : Readings). IsDue g sources settings m dir) (same now given.all all) due))

-- the same paths have the same folders
pub gone_alike : (sources outline : Tree) → HasPaths sources outline → (kept : List (Names × Reading)) → gone_among outline kept ≡ gone_among sources kept
gone_alike sources outline paths kept = ap (λ (has : Names → Bool). filter (λ dir. not (has dir)) (map (λ (one : Names × Reading). one.0) kept)) (λ i dir. tupfile_alike sources outline paths dir i)

-- ---- what comes of a refresh

pub refreshed_read : (g : GraphState) (sources : Tree) (result : Result Refreshed FoldersFault) → IsRefresh g sources result → IsOutcome sources (readings_of result)
refreshed_read g sources result is = by (settings_of sources) result is
  where
    by : (found : Result Entries ConfigFault) (result : Result Refreshed FoldersFault) → IsRefreshWith g sources found result → AreReadWith sources found (readings_of result)
    by (Ok settings) (Ok given) is = is.read
    by (Ok settings) (Err fault) is = is
    by (Err fault) (Ok given) (inl e) = cc
    by (Err fault) (Ok given) (inr e) = cc
    by (Err fault) (Err end) (inl e) = inl (ap readings_of e)
    by (Err fault) (Err end) (inr e) = inr (ap readings_of e)

pub refresh_memory : (g : GraphState) (tree : Tree) → IsRefresh g tree (Err Memory)
refresh_memory g tree = by (settings_of tree)
  where
    by : (found : Result Entries ConfigFault) → IsRefreshWith g tree found (Err Memory)
    by (Ok settings) = tt
    by (Err fault) = inl refl

pub refresh_err : (g : GraphState) (tree sources : Tree) (fault : FoldersFault) → sources ≡ tree → IsConfig (settings_of sources) (Err fault) → IsRefresh g tree (Err fault)
refresh_err g tree sources fault is (inl e) = subst (λ (f : FoldersFault). IsRefresh g tree (Err f)) (sym e) (refresh_memory g tree)
refresh_err g tree sources fault is (inr told) =
    subst (λ (t : Tree). IsRefresh g t (Err fault)) is
    (subst (λ (found : Result Entries ConfigFault). IsRefreshWith g sources found (Err fault)) (sym told.1) (inr (ap (λ (f : FoldersFault). Err f) told.2)))
