-- Where no folder is flagged, and no readings wait for each other in a circle, a refresh brings nothing.
use Rattle.std.proofs.Common.{◌≡◌, ◌⊎◌, inl, inr, Bool, true, false, cond, not, ◌&&◌, ◌||◌, List, [], ◌∷◌, ◌++◌, length, get_or, Option, Some, None, is_some, is_none, IsSome, IsTrue, Result, Ok, refl, sym, ap, ◌∙◌, subst, arith}
use Rattle.std.specs.Option.{MatchOption}
use Rattle.std.specs.Prelude.{option_and_then, unwrap_or}
use Rattle.std.specs.declared.cmp.Ordering.{Ordering}
use Rattle.std.specs.declared.cmp.Ordering.TheVariants.{Less, Equal, Greater}
use Rattle.std.specs.FinMap as finite
use Rattle.std.specs.FinMap.{is_sorted}
use Rattle.std.specs.FinMap.Entries.{below_all}
use Rattle.std.specs.List.{Contains}
use Rattle.std.specs.Ordering.{is_eq, is_lt}
use Rattle.std.specs.Result.{result_ok}
use Rattle.std.proofs.lemmas.Bool.{not-true, or_cases, true≢false}
use Rattle.std.proofs.lemmas.List.{get_or_default}
use Rattle.std.proofs.lemmas.List.Elements.{All-contains, Contains-append_cases}
use Rattle.std.proofs.lemmas.List.Sums.{AllPass-from_list_all}
use Rattle.tup_path.specs.Name.{Names, Content}
use Rattle.tup_path.specs.Order.{by_names, by_names-total, by_names-antisymmetric, same_path, same_path-by_names}
use Rattle.tup_path.specs.Resolve.{above}
use Rattle.tup_path.specs.Tree.{Tree}
use Rattle.tup_path.proofs.Same.{same_path-decides, by_names-decides}
use Rattle.tup_site.specs.Known.{IsKnown, KnowsTree}
use Rattle.tup_rule.specs.Rule.{among}
use Rattle.tup_rule.specs.declared.question.Noted.{Noted}
use Rattle.tup_rule.specs.declared.question.Question.{Question}
use Rattle.tup_rule.specs.declared.question.Question.TheVariants as asks
use Rattle.tup_rule.specs.declared.question.Reading.{Reading}
use Rattle.tup_vars.specs.Config.{config_of}
use Rattle.tup_vars.specs.Table.{Entries}
use Rattle.tup_vars.specs.declared.fault.ConfigFault.{ConfigFault}
use Rattle.tup_readings.specs.Answers.{Readings, unread, folder_told, awaited}
use Rattle.tup_readings.specs.Readings.{IsReadingOver, AreReadings, AreSomeReadings, AreAllReadings}
use Rattle.tup_readings.specs.Sources.{has_below, has_tupfile, home, is_source, settings_of}
use Rattle.tup_readings.proofs.Homes.{home_is, home_own}
use Rattle.tup_readings.proofs.More.{get_more}
use Rattle.tup_readings.proofs.One.{AreOfTupfiles, of_tupfiles}
use Rattle.tup_runner.specs.Next.{Next}
use Rattle.tup_graph.specs.Answers.{tup_config}
use Rattle.tup_graph.specs.Graph.{GraphState, is_created}
use Rattle.tup_graph.specs.Kept.{IsKept}
use Rattle.tup_graph.specs.Records.{Language}
use Rattle.tup_graph.specs.Swap.{reading_now}
use Rattle.tup_readers.proofs.Entries.{none_in, in_front, behind_front, front_or_behind}
use Rattle.tup_scan_diff.proofs.Editing.{left_of, right_of, t_true, apart, above_head, found_entry, entry_found}
use Rattle.tup_refresh.specs.Idle.{up_to, asked_folder, asks_own, are_own, keeps_own, AsksBack, AreBack, AllAskBack, IsWellSet, IsIdle, idle}
use Rattle.tup_refresh.specs.Language.{ReadsTupfiles}
use Rattle.tup_refresh.specs.Refresh.{IsDue, gone_among, AreRefreshed, IsRefresh, IsRefreshWith}
use Rattle.tup_refresh.specs.Standing.{Stands}
use Rattle.tup_refresh.specs.Untouched.{IsUntouched, SeesSources}
use Rattle.tup_refresh.specs.declared.refreshed.Refreshed.{Refreshed}
use Rattle.tup_refresh.proofs.Answering.{reading_stands}
use Rattle.tup_refresh.proofs.Ending.{listed_up}
use Rattle.tup_refresh.proofs.Recorded.{true_beside}
use Rattle.tup_refresh.proofs.Untouched.{empty_sets, not_due, one_kept, told_stands}
use Rattle.tup_refresh.proofs.Upward.{IsUpTo, is_up_to}

-- ---- orders and options

less_is : (o : Ordering) → is_lt o ≡ true → o ≡ Less
less_is Less e = refl
less_is Equal e = absurd (true≢false (sym e))
less_is Greater e = absurd (true≢false (sym e))

not_itself : (x : Names) → by_names x x ≡ Less → ⊥
not_itself x e = true≢false (sym ((by_names-decides x x).1 refl) ∙ ap is_eq e)

nothing : (left : Reading) → None ≡ Some left → ⊥
nothing left e = let wrong : None ≡ Some left = e in cc

-- ---- the folder that a question asks about

-- a reading is kept of each folder that has a Tupfile
abbrev AllAreKept : GraphState → Tree → Type 0
AllAreKept g sources = (dir : Names) → IsTrue (has_tupfile sources dir) → IsSome (finite.get g.readings dir)

-- an answer tells of the rules of the home of the folder that is asked about
told_of : (sources : Tree) (question : Question) (folder : Names) → folder_told sources question ≡ Some folder → (dir : Names) × (asked_folder question ≡ Some dir) × (home sources dir ≡ Some folder)
told_of sources (asks.Content path) folder e = let wrong : None ≡ Some folder = e in cc
told_of sources (asks.Config name) folder e = let wrong : None ≡ Some folder = e in cc
told_of sources (asks.Names dir) folder e = (dir, refl, e)
told_of sources (asks.Kind path) folder e = by (is_source sources path || has_below (finite.keys sources) path) e
  where
    at : (up : Option Names) → result_ok (above path) ≡ up → option_and_then (home sources) up ≡ Some folder → (dir : Names) × (result_ok (above path) ≡ Some dir) × (home sources dir ≡ Some folder)
    at None top e = let wrong : None ≡ Some folder = e in cc
    at (Some dir) top e = (dir, top, e)

    by : (b : Bool) → cond b None (option_and_then (home sources) (result_ok (above path))) ≡ Some folder → (dir : Names) × (result_ok (above path) ≡ Some dir) × (home sources dir ≡ Some folder)
    by true e = let wrong : None ≡ Some folder = e in cc
    by false e = at (result_ok (above path)) refl e

-- a question about no other folder than the reader's, which has a Tupfile, is told of that one's rules
own_told : (sources : Tree) (reader : Names) (question : Question) (folder : Names) → IsTrue (has_tupfile sources reader) → asks_own reader question ≡ true → folder_told sources question ≡ Some folder → reader ≡ folder
own_told sources reader question folder has own e =
    let of = told_of sources question folder e in
    let at : of.0 ≡ reader = (same_path-decides of.0 reader).0 (sym (ap (λ (up : Option Names). elim up as (λ _. Bool) [ Some dir ↦ same_path dir reader | None ↦ true ]) of.1) ∙ own) in
    the reader folder (sym (home_own sources reader has) ∙ ap (home sources) (sym at) ∙ of.2)
  where
    the : (a b : Names) → Some a ≡ Some b → a ≡ b
    the a b e = cc

-- where all readings are kept, one that asks back is told of the rules of a folder that comes no later, or whose reading asked
-- about no other
back_told : (g : GraphState) (sources : Tree) (reader : Names) (question : Question) (folder : Names) → AllAreKept g sources → AsksBack g reader question → folder_told sources question ≡ Some folder → IsUpTo folder reader ⊎ (keeps_own g folder ≡ true)
back_told g sources reader question folder kept back e =
    let of = told_of sources question folder e in
    let is = home_is sources of.0 folder of.2 in
    elim (or_cases (up_to folder reader) (keeps_own g folder) (back of.0 of.1 folder is.above (kept folder is.has))) [
      | inl up ↦ inl (is_up_to folder reader up)
      | inr own ↦ inr own
    ]

-- ---- what is looked at

-- an iterator that gives nothing is at its end
pub ended : {X : Type 0} (result : Option X) (none : Bool) (Ended : Type 0) (Goes : X → Type 0) → is_some result ≡ not none → none ≡ true → MatchOption result Ended Goes → Ended
ended None none Ended Goes is there steps = steps
ended (Some x) none Ended Goes is there steps = absurd (let wrong : true ≡ false = is ∙ ap not there in cc)

-- nothing stands above the top
pub none_above : (path : Names) → length path ≡ 0 → result_ok (above path) ≡ None
none_above [] e = refl
none_above (name ∷ path) e = absurd (omega arith)

-- the questions of these readings
abbrev pub AllBack : GraphState → List (Names × Reading) → Type 0
AllBack g seen = (dir : Names) (left : Reading) → Contains seen (dir, left) → AreBack g dir left.asked

pub back_none : (g : GraphState) → AllBack g []
back_none g dir left h = absurd (none_in (dir, left) h)

pub back_more : (g : GraphState) (seen : List (Names × Reading)) (one : Names × Reading) → AllBack g seen → AreBack g one.0 one.1.asked → AllBack g (seen ++ one ∷ [])
back_more g seen one before back dir left h = elim (Contains-append_cases seen (one ∷ []) (dir, left) h) [
  | inl old ↦ before dir left old
  | inr new ↦ elim (front_or_behind one (dir, left) [] new) [
    | inl same ↦ subst (λ (x : Names × Reading). AreBack g x.0 x.1.asked) same back
    | inr neither ↦ absurd (none_in (dir, left) neither)
  ]
]

-- a folder needs no reading that is one's own, that has no Tupfile, or that is read
read_off : (own has : Bool) (found : Option Reading) → (own ≡ true) ⊎ (has ≡ true → IsSome found) → (not own && has && is_none found) ≡ false
read_off true has found h = refl
read_off false false found h = refl
read_off false true (Some left) h = refl
read_off false true None (inl e) = let wrong : false ≡ true = e in cc
read_off false true None (inr some) = let wrong = some refl in cc

module _ (next : Next) (language : Language) (known : List Content) (g : GraphState) (sources : Tree) (settings : Entries) (reads : ReadsTupfiles language) (is_known : IsKnown known) (tree : KnowsTree known sources)
    (is_kept : IsKept next language known g) (sees : SeesSources sources g) (set : settings_of sources ≡ Ok settings) (none : (dir : Names) → is_created g dir ≡ false)
    (tups : (dir : Names) (left : Reading) → finite.get g.readings dir ≡ Some left → IsTrue (has_tupfile sources dir)) (back : AllAskBack g) where
  untouched : (dir : Names) → IsUntouched sources g dir
  untouched dir = λ folders last leads. none last

  kept_of : (dir : Names) → IsTrue (has_tupfile sources dir) → (left : Reading) × (finite.get g.readings dir ≡ Some left)
  kept_of dir has = one_kept next language known g sources settings reads is_known tree is_kept sees set dir has (none dir)

  all_kept : AllAreKept g sources
  all_kept dir has = subst IsSome (sym (kept_of dir has).1) refl

  -- ---- readings over others

  abbrev IsKeptOne : Names × Reading → Type 0
  IsKeptOne one = finite.get g.readings one.0 ≡ Some one.1

  -- of these readings each is kept
  abbrev AreKept : Readings → Type 0
  AreKept now = (dir : Names) (left : Reading) → finite.get now dir ≡ Some left → finite.get g.readings dir ≡ Some left

  -- among these readings are those
  abbrev HasAll : Readings → Readings → Type 0
  HasAll now start = (dir : Names) (left : Reading) → finite.get start dir ≡ Some left → finite.get now dir ≡ Some left

  -- no answer to a reading waits, over others
  abbrev WaitsNot : Readings → Names × Reading → Type 0
  WaitsNot now one = (question : Question) (noted : Noted) → Contains one.1.asked (question, noted) → awaited sources now one.0 question ≡ None

  ready : (now : Readings) (dir folder : Names) → (dir ≡ folder) ⊎ IsSome (finite.get now folder) → unread sources now dir folder ≡ None
  ready now dir folder either = ap (λ (b : Bool). cond b (Some folder) None) (read_off (same_path dir folder) (has_tupfile sources folder) (finite.get now folder) (by either))
    where
      by : (dir ≡ folder) ⊎ IsSome (finite.get now folder) → (same_path dir folder ≡ true) ⊎ (has_tupfile sources folder ≡ true → IsSome (finite.get now folder))
      by (inl same) = inl ((same_path-decides dir folder).1 same)
      by (inr some) = inr (λ has. some)

  waits_for_none : (now : Readings) (dir : Names) (question : Question) → ((folder : Names) → folder_told sources question ≡ Some folder → (dir ≡ folder) ⊎ IsSome (finite.get now folder)) → awaited sources now dir question ≡ None
  waits_for_none now dir question each = at (folder_told sources question) refl
    where
      at : (folder : Option Names) → folder_told sources question ≡ folder → option_and_then (unread sources now dir) folder ≡ None
      at None e = refl
      at (Some folder) e = ready now dir folder (each folder e)

  -- where no answer waits all stands, so a reading is what the folder reads as
  stands_over : (before : Readings) (one : Names × Reading) → IsKeptOne one → AreKept before → AreOfTupfiles sources settings before → WaitsNot before one → IsReadingOver sources settings before one.0 one.1
  stands_over before one there stay tups waits =
      reading_stands sources settings before one.0 one.1 (true_beside language known reads sources is_known tree one.0 one.1 (is_kept.records.readings one.0 one.1 there))
      (λ k d less. stands (get_or one.1.asked k d) (k, less, get_or_default one.1.asked k (get_or one.1.asked k d) d less))
    where
      stands : (asked : Question × Noted) → Contains one.1.asked asked → Stands sources settings before one.0 asked
      stands asked h =
          let none_waits = waits asked.0 asked.1 h in (
            none_waits,
            told_stands next language known g sources settings reads is_known tree is_kept sees set before tups (λ other kept e touched. stay other kept e) one.0 one.1 asked there (untouched one.0) h none_waits,
          )

  -- ---- one folder after another

  -- of the kept readings those that are picked come one after another, behind those of a start. Each waits for none over those
  -- of the start and those picked before it
  module _ (pick : Names × Reading → Bool) (start : Readings)
      (can : (now : Readings) (one : Names × Reading) → IsKeptOne one → pick one ≡ true → HasAll now start
      → ((other : Names × Reading) → IsKeptOne other → pick other ≡ true → by_names other.0 one.0 ≡ Less → IsSome (finite.get now other.0)) → WaitsNot now one) where
    -- what is read then
    record Walked : Type 0 where
      pub readings : Readings
      pub order : List Names
      pub are : AreReadings sources settings order readings
      pub stay : AreKept readings
      pub over : HasAll readings start
      pub all : (one : Names × Reading) → IsKeptOne one → pick one ≡ true → finite.get readings one.0 ≡ Some one.1
      pub only : (one : Names × Reading) → finite.get readings one.0 ≡ Some one.1 → (finite.get start one.0 ≡ Some one.1) ⊎ (pick one ≡ true)

    -- so far, where these are left
    record IsWalking (rest : List (Names × Reading)) (order : List Names) (before : Readings) : Type 0 where
      pub up : is_sorted by_names rest ≡ true
      pub are : AreReadings sources settings order before
      pub stay : AreKept before
      pub over : HasAll before start
      pub only : (one : Names × Reading) → finite.get before one.0 ≡ Some one.1 → (finite.get start one.0 ≡ Some one.1) ⊎ (pick one ≡ true)
      pub kept : (one : Names × Reading) → Contains rest one → IsKeptOne one
      pub cover : (one : Names × Reading) → IsKeptOne one → pick one ≡ true → (finite.get before one.0 ≡ Some one.1) ⊎ Contains rest one
      pub new : (one : Names × Reading) → Contains rest one → pick one ≡ true → finite.get before one.0 ≡ None

    -- one isn't picked
    passed : (one : Names × Reading) (rest : List (Names × Reading)) (order : List Names) (before : Readings) → pick one ≡ false → IsWalking (one ∷ rest) order before → IsWalking rest order before
    passed one rest order before off is = record {
      up = right_of (below_all by_names one.0 rest) (is_sorted by_names rest) is.up;
      are = is.are;
      stay = is.stay;
      over = is.over;
      only = is.only;
      kept = λ other h. is.kept other (behind_front one other rest h);
      cover = λ other there on. elim (is.cover other there on) [
        | inl seen ↦ inl seen
        | inr h ↦ elim (front_or_behind one other rest h) [
          | inl same ↦ absurd (true≢false (sym on ∙ ap pick (sym same) ∙ off))
          | inr later ↦ inr later
        ]
      ];
      new = λ other h. is.new other (behind_front one other rest h);
    }

    -- one is
    module _ (one : Names × Reading) (rest : List (Names × Reading)) (order : List Names) (before : Readings) (on : pick one ≡ true) (is : IsWalking (one ∷ rest) order before) where
      abbrev more : Readings
      more = finite.insert before one.0 one.1

      here : IsKeptOne one
      here = is.kept one (in_front one rest)

      behind : (other : Names × Reading) → Contains rest other → is_lt (by_names one.0 other.0) ≡ true
      behind other h = above_head one.0 rest other (left_of (below_all by_names one.0 rest) (is_sorted by_names rest) is.up) h

      earlier : (other : Names × Reading) → IsKeptOne other → pick other ≡ true → by_names other.0 one.0 ≡ Less → IsSome (finite.get before other.0)
      earlier other there picked less = elim (is.cover other there picked) [
        | inl seen ↦ subst IsSome (sym seen) refl
        | inr h ↦ absurd (elim (front_or_behind one other rest h) [
          | inl same ↦ not_itself other.0 (subst (λ (d : Names). by_names other.0 d ≡ Less) (λ i. (same i).0) less)
          | inr later ↦ not_itself other.0 (by_names-total.trans other.0 one.0 other.0 less (less_is (by_names one.0 other.0) (behind other later)))
        ])
      ]

      -- what is read at a folder then
      read_now : (dir : Names) (left : Reading) → finite.get more dir ≡ Some left → ((dir ≡ one.0) × (one.1 ≡ left)) ⊎ (finite.get before dir ≡ Some left)
      read_now dir left e = by (same_path dir one.0) refl (sym (get_more before one.0 one.1 dir) ∙ e)
        where
          by : (b : Bool) → same_path dir one.0 ≡ b → cond b (Some one.1) (finite.get before dir) ≡ Some left → ((dir ≡ one.0) × (one.1 ≡ left)) ⊎ (finite.get before dir ≡ Some left)
          by true at got = let same : one.1 ≡ left = cc in inl ((same_path-decides dir one.0).0 at, same)
          by false at got = inr got

      there_now : finite.get more one.0 ≡ Some one.1
      there_now = get_more before one.0 one.1 one.0 ∙ ap (λ (b : Bool). cond b (Some one.1) (finite.get before one.0)) ((same_path-decides one.0 one.0).1 refl)

      apart_now : (dir : Names) → same_path dir one.0 ≡ false → finite.get more dir ≡ finite.get before dir
      apart_now dir at = get_more before one.0 one.1 dir ∙ ap (λ (b : Bool). cond b (Some one.1) (finite.get before dir)) at

      -- what was read is
      was_read : HasAll more before
      was_read dir left e = by (same_path dir one.0) refl
        where
          by : (b : Bool) → same_path dir one.0 ≡ b → finite.get more dir ≡ Some left
          by true at =
              let wrong : None ≡ Some left = sym (is.new one (in_front one rest) on) ∙ ap (finite.get before) (sym ((same_path-decides dir one.0).0 at)) ∙ e in
              cc
          by false at = apart_now dir at ∙ e

      walked_more : IsWalking rest (one.0 ∷ order) more
      walked_more = record {
        up = right_of (below_all by_names one.0 rest) (is_sorted by_names rest) is.up;
        are = (
          before,
          one.1,
          is.are,
          tups one.0 one.1 here,
          is.new one (in_front one rest) on,
          stands_over before one here is.stay (of_tupfiles sources settings order before is.are) (can before one here on is.over earlier),
          refl,
        );
        stay = λ dir left e. elim (read_now dir left e) [
          | inl at ↦ ap (finite.get g.readings) at.0 ∙ here ∙ ap (λ (r : Reading). Some r) at.1
          | inr old ↦ is.stay dir left old
        ];
        over = λ dir left e. was_read dir left (is.over dir left e);
        only = λ other e. elim (read_now other.0 other.1 e) [
          | inl at ↦ inr (ap pick (λ i. (at.0 i, sym at.1 i)) ∙ on)
          | inr old ↦ is.only other old
        ];
        kept = λ other h. is.kept other (behind_front one other rest h);
        cover = λ other there picked. elim (is.cover other there picked) [
          | inl seen ↦ inl (was_read other.0 other.1 seen)
          | inr h ↦ elim (front_or_behind one other rest h) [
            | inl same ↦ inl (subst (λ (x : Names × Reading). finite.get more x.0 ≡ Some x.1) same there_now)
            | inr later ↦ inr later
          ]
        ];
        new = λ other h picked.
            apart_now other.0 (same_path-by_names other.0 one.0 ∙ apart other.0 one.0 (behind other h)) ∙ is.new other (behind_front one other rest h) picked;
      }

    abbrev Walks : List (Names × Reading) → Type 0
    Walks rest = (order : List Names) (before : Readings) → IsWalking rest order before → Walked

    walk : (rest : List (Names × Reading)) → Walks rest
    walk [] order before is = record {
      readings = before;
      order = order;
      are = is.are;
      stay = is.stay;
      over = is.over;
      all = λ one there on. elim (is.cover one there on) [ inl seen ↦ seen | inr h ↦ absurd (none_in one h) ];
      only = is.only;
    }
    walk (one ∷ rest) order before is = by (walk rest) (pick one) refl
      where
        by : Walks rest → (b : Bool) → pick one ≡ b → Walked
        by later true on = later (one.0 ∷ order) (finite.insert before one.0 one.1) (walked_more one rest order before on is)
        by later false off = later order before (passed one rest order before off is)

    -- from the start on
    walk_all : (order : List Names) → AreReadings sources settings order start → AreKept start → ((one : Names × Reading) → IsKeptOne one → pick one ≡ true → finite.get start one.0 ≡ None) → Walked
    walk_all order are stay new = walk (finite.entries g.readings) order start (record {
      up = t_true (is_sorted by_names (finite.entries g.readings)) (finite.entries_sorted g.readings);
      are = are;
      stay = stay;
      over = λ dir left e. e;
      only = λ one e. inl e;
      kept = λ one h. found_entry g.readings one.0 one.1 h;
      cover = λ one there on. inr (entry_found g.readings one.0 one.1 there);
      new = λ one h on. new one (found_entry g.readings one.0 one.1 h) on;
    })

  -- ---- first those that asked about no other folder, then the others

  abbrev is_own : Names × Reading → Bool
  is_own one = are_own one.0 one.1.asked

  own_waits : (now : Readings) (one : Names × Reading) → IsKeptOne one → is_own one ≡ true → WaitsNot now one
  own_waits now one there own question noted h = waits_for_none now one.0 question (λ folder e. inl (own_told sources one.0 question folder (tups one.0 one.1 there) asked e))
    where
      asked : asks_own one.0 question ≡ true
      asked = All-contains (λ (entry : Question × Noted). asks_own one.0 entry.0 ≡ true) one.1.asked (question, noted)
          (AllPass-from_list_all (λ (entry : Question × Noted). asks_own one.0 entry.0) one.1.asked own) h

  owns : Walked is_own finite.empty (λ now one there own over passed_by. own_waits now one there own)
  owns = walk_all is_own finite.empty (λ now one there own over passed_by. own_waits now one there own) [] refl (λ dir left e. absurd (nothing left (sym (finite.get-empty by_names dir) ∙ e))) (λ one there on. finite.get-empty by_names one.0)

  -- a kept reading that asked about no other folder is among them
  own_there : (folder : Names) (left : Reading) → finite.get g.readings folder ≡ Some left → are_own folder left.asked ≡ true → IsSome (finite.get owns.readings folder)
  own_there folder left there own = subst IsSome (sym (owns.all (folder, left) there own)) refl

  other_waits : (now : Readings) (one : Names × Reading) → IsKeptOne one → HasAll now owns.readings
      → ((other : Names × Reading) → IsKeptOne other → not (is_own other) ≡ true → by_names other.0 one.0 ≡ Less → IsSome (finite.get now other.0)) → WaitsNot now one
  other_waits now one there over earlier question noted h = waits_for_none now one.0 question each
    where
      asked : AsksBack g one.0 question
      asked = All-contains (λ (entry : Question × Noted). AsksBack g one.0 entry.0) one.1.asked (question, noted) (back one.0 one.1 there) h

      read_before : (folder : Names) (left : Reading) → finite.get g.readings folder ≡ Some left → are_own folder left.asked ≡ true → IsSome (finite.get now folder)
      read_before folder left kept own = subst IsSome (sym (over folder left (owns.all (folder, left) kept own))) refl

      less : (folder : Names) (left : Reading) → finite.get g.readings folder ≡ Some left → by_names folder one.0 ≡ Less → (b : Bool) → are_own folder left.asked ≡ b → IsSome (finite.get now folder)
      less folder left kept first true own = read_before folder left kept own
      less folder left kept first false own = earlier (folder, left) kept (ap not own) first

      has : (folder : Names) → folder_told sources question ≡ Some folder → IsTrue (has_tupfile sources folder)
      has folder e = let of = told_of sources question folder e in (home_is sources of.0 folder of.2).has

      each : (folder : Names) → folder_told sources question ≡ Some folder → (one.0 ≡ folder) ⊎ IsSome (finite.get now folder)
      each folder e =
          let kept = kept_of folder (has folder e) in
          elim (back_told g sources one.0 question folder all_kept asked e) [
            | inl up ↦ elim up [
              | inl same ↦ inl (sym same)
              | inr first ↦ inr (less folder kept.0 kept.1 first (are_own folder kept.0.asked) refl)
            ]
            | inr own ↦ inr (read_before folder kept.0 kept.1
                (sym (ap (λ (found : Option Reading). elim found as (λ _. Bool) [ Some left ↦ are_own folder left.asked | None ↦ true ]) kept.1) ∙ own))
          ]

  others : Walked (λ one. not (is_own one)) owns.readings (λ now one there off over earlier. other_waits now one there over earlier)
  others = walk_all (λ one. not (is_own one)) owns.readings (λ now one there off over earlier. other_waits now one there over earlier) owns.order owns.are owns.stay new
    where
      new : (one : Names × Reading) → IsKeptOne one → not (is_own one) ≡ true → finite.get owns.readings one.0 ≡ None
      new one there off = by (finite.get owns.readings one.0) refl
        where
          by : (found : Option Reading) → finite.get owns.readings one.0 ≡ found → finite.get owns.readings one.0 ≡ None
          by None e = e
          by (Some left) e = absurd (elim (owns.only (one.0, left) e) [
            | inl was ↦ nothing left (sym (finite.get-empty by_names one.0) ∙ was)
            | inr own ↦
                let same : Some left ≡ Some one.1 = sym (owns.stay one.0 left e) ∙ there in
                let left_is : left ≡ one.1 = cc in
                true≢false (sym own ∙ ap (λ (r : Reading). are_own one.0 r.asked) left_is ∙ not-true (is_own one) off)
          ])

  some_readings : AreSomeReadings sources settings g.readings
  some_readings = (others.order, subst (AreReadings sources settings others.order) (finite.same_map by_names-total by_names-antisymmetric others.readings g.readings each) others.are)
    where
      there : (dir : Names) (left : Reading) → finite.get g.readings dir ≡ Some left → (b : Bool) → are_own dir left.asked ≡ b → finite.get others.readings dir ≡ Some left
      there dir left kept true own = others.over dir left (owns.all (dir, left) kept own)
      there dir left kept false own = others.all (dir, left) kept (ap not own)

      each : (dir : Names) → finite.get others.readings dir ≡ finite.get g.readings dir
      each dir = by (finite.get others.readings dir) refl (finite.get g.readings dir) refl
        where
          by : (a : Option Reading) → finite.get others.readings dir ≡ a → (b : Option Reading) → finite.get g.readings dir ≡ b → finite.get others.readings dir ≡ finite.get g.readings dir
          by (Some left) e b kept = e ∙ sym (others.stay dir left e)
          by None e None kept = e ∙ sym kept
          by None e (Some left) kept = there dir left kept (are_own dir left.asked) refl ∙ sym kept

  all_readings : AreAllReadings sources settings g.readings
  all_readings = record { some = some_readings; all = all_kept }

  -- ---- what it comes to

  abbrev no_readings : List (Names × Reading)
  no_readings = []

  same : finite.from_sorted {R = by_names} (finite.entries g.readings) ≡ g.readings
  same = finite.same_entries_map _ _ (finite.entries-from_sorted by_names (finite.entries g.readings) (finite.entries_sorted g.readings))

  all_listed : AreAllReadings sources settings (finite.from_sorted (finite.entries g.readings))
  all_listed = subst (AreAllReadings sources settings) (sym same) all_readings

  none_gone : (list : List (Names × Reading)) → ((one : Names × Reading) → Contains list one → IsTrue (has_tupfile sources one.0)) → [] ≡ gone_among sources list
  none_gone [] each = refl
  none_gone (one ∷ list) each =
      none_gone list (λ other h. each other (behind_front one other list h))
      ∙ ap (λ (b : Bool). cond (not b) (one.0 ∷ gone_among sources list) (gone_among sources list)) (sym (each one (in_front one list)))

  now : (dir : Names) → reading_now g no_readings [] dir ≡ finite.get g.readings dir
  now dir =
      ap (λ (found : Option Reading). elim found as (λ _. Option Reading) [ Some reading ↦ Some reading | None ↦ elim (among dir []) as (λ _. Option Reading) [ true ↦ None | false ↦ finite.get g.readings dir ] ])
      (finite.get-from_entries by_names-total no_readings dir)

  refreshed : AreRefreshed g sources settings (idle g)
  refreshed = record {
    read = (listed_up g.readings (finite.entries g.readings) refl, all_listed);
    sorted = refl;
    due = λ dir. (to dir, from dir);
    gone = none_gone (finite.entries g.readings) (λ one h. tups one.0 one.1 (found_entry g.readings one.0 one.1 h));
    together = λ dir. ap (λ (m : Readings). finite.get m dir) same ∙ sym (now dir);
  }
    where
      to : (dir : Names) → IsSome (finite.get (finite.from_sorted {R = by_names} no_readings) dir) → IsDue g sources settings (finite.from_sorted (finite.entries g.readings)) dir
      to dir some = let wrong = subst IsSome (finite.get-from_sorted by_names no_readings dir tt) some in cc

      from : (dir : Names) → IsDue g sources settings (finite.from_sorted (finite.entries g.readings)) dir → IsSome (finite.get (finite.from_sorted {R = by_names} no_readings) dir)
      from dir due =
          absurd (not_due next language known g sources settings reads is_known tree is_kept sees set (finite.from_sorted (finite.entries g.readings)) all_listed dir (untouched dir) due)

  idle_refreshed : IsRefresh g sources (Ok (idle g))
  idle_refreshed = subst (λ (found : Result Entries ConfigFault). IsRefreshWith g sources found (Ok (idle g))) (sym set) refreshed

-- ---- where that was looked at

-- what tup.config sets, a source or none
set_well : (sources : Tree) (config : Option Content) → IsWellSet config → (finite.get sources tup_config ≡ None) ⊎ (finite.get sources tup_config ≡ config) → (settings : Entries) × (settings_of sources ≡ Ok settings)
set_well sources config well (inl none) = ([], ap (λ (found : Option Content). config_of (unwrap_or found [])) none ∙ empty_sets)
set_well sources config well (inr same) = (well.0, ap (λ (found : Option Content). config_of (unwrap_or found [])) same ∙ well.1)

pub not_created : (g : GraphState) → g.created ≡ finite.empty → (dir : Names) → is_created g dir ≡ false
not_created g none dir = ap (λ m. finite.contains_key m dir) none ∙ ap is_some (finite.get-empty by_names dir)

pub idle_brings_nothing : (next : Next) (language : Language) (known : List Content) (g : GraphState) (sources : Tree) (config : Option Content) → ReadsTupfiles language → IsKnown known → KnowsTree known sources
    → IsKept next language known g → SeesSources sources g → IsIdle g config → (finite.get sources tup_config ≡ None) ⊎ (finite.get sources tup_config ≡ config)
    → ((dir : Names) (left : Reading) → finite.get g.readings dir ≡ Some left → IsTrue (has_tupfile sources dir)) → IsRefresh g sources (Ok (idle g))
idle_brings_nothing next language known g sources config reads is_known tree is_kept sees is there tups =
    let set = set_well sources config is.settings there in
    idle_refreshed next language known g sources set.0 reads is_known tree is_kept sees set.1 (not_created g is.created) tups is.back
