-- The stamps of files after one more entry, and a file that is looked for.
use Rattle.std.proofs.Common.{◌≡◌, ℕ, zero, suc, ◌+◌, ◌<◌, Bool, true, false, cond, List, [], ◌∷◌, ◌++◌, length, get_or, take, Option, Some, refl, sym, ap, ◌∙◌, subst, inl, inr, arith}
use Rattle.std.specs.Prelude.{◌==◌, if◌then◌else◌, is_some, slice_get}
use Rattle.std.proofs.lemmas.Bool.{true≢false, cases_eq, eqb-true, or_left, or_right, or_cases}
use Rattle.std.proofs.lemmas.Option.{same_Some}
use Rattle.std.proofs.lemmas.List.{take_more, length-map, ext_get_or, get_or_default, get_or_read}
use Rattle.std.proofs.lemmas.List.Folds.{list_any_more}
use Rattle.std.specs.Cmp.{eq_by_cmp_equiv}
use Rattle.std.specs.Option.{option_flatten, option_or}
use Rattle.std.specs.Ordering.{eq_by_cmp}
use Rattle.tup_path.specs.Name.{Names}
use Rattle.tup_path.specs.Order.{by_names, by_names-total, same_path, same_path-by_names}
use Rattle.tup_path.proofs.Same.{same_path-decides}
use Rattle.tup_stamp.specs.declared.Stamp.{Stamp}
use Rattle.tup_rule.specs.declared.rule.Rule.{Rule}
use Rattle.tup_rule.specs.Rule.{among, writes}
use Rattle.tup_core.specs.declared.files.FileStamps.{FileStamps}
use Rattle.tup_core.specs.Links.{is_one_of}
use Rattle.tup_core.specs.Files.{has_room, paths_in, AreKept, HasRoomFor}
use Rattle.tup_core.specs.Step.{with_stamps}

-- the test of the map is the test of paths, the other way round
pub same_key : (path q : Names) → eq_by_cmp by_names path q ≡ same_path q path
same_key path q = (eq_by_cmp_equiv by_names-total).symm path q ∙ sym (same_path-by_names q path)

-- the stamp at a path once another has got one
pub put_one : (path q : Names) (stamp : Stamp) (seen : Option Stamp) (before after : Option (Option Stamp)) → after ≡ cond (eq_by_cmp by_names path q) (Some (Some stamp)) before →
    option_or (option_flatten after) seen ≡ (if same_path q path then Some stamp else option_or (option_flatten before) seen)
put_one path q stamp seen before after is =
    ap (λ (o : Option (Option Stamp)). option_or (option_flatten o) seen) (is ∙ ap (λ b. cond b (Some (Some stamp)) before) (same_key path q)) ∙ either (same_path q path)
  where
    either : (b : Bool) → option_or (option_flatten (cond b (Some (Some stamp)) before)) seen ≡ (if b then Some stamp else option_or (option_flatten before) seen)
    either true = refl
    either false = refl

-- the stamp at a path once another has got the one that it had
pub kept_one : (path q : Names) (stamp seen : Option Stamp) (before after : Option (Option Stamp)) → (q ≡ path → stamp ≡ option_flatten before) → after ≡ cond (eq_by_cmp by_names path q) (Some stamp) before →
    option_or (option_flatten after) seen ≡ option_or (option_flatten before) seen
kept_one path q stamp seen before after had is =
    ap (λ (o : Option (Option Stamp)). option_or (option_flatten o) seen) (is ∙ ap (λ b. cond b (Some stamp) before) (same_key path q)) ∙ either (same_path q path) refl
  where
    either : (b : Bool) → same_path q path ≡ b → option_or (option_flatten (cond b (Some stamp) before)) seen ≡ option_or (option_flatten before) seen
    either true same = ap (λ (o : Option Stamp). option_or o seen) (had ((same_path-decides q path).0 same))
    either false apart = refl

-- room stays, and there is room at the path that was put
pub room_stays : (b : Bool) (value : Option Stamp) (before after : Option (Option Stamp)) → after ≡ cond b (Some value) before → is_some before ≡ true → is_some after ≡ true
room_stays b value before after is had = ap is_some is ∙ either b
  where
    either : (b : Bool) → is_some (cond b (Some value) before) ≡ true
    either true = refl
    either false = had

pub room_here : (path q : Names) (value : Option Stamp) (before after : Option (Option Stamp)) → path ≡ q → after ≡ cond (eq_by_cmp by_names path q) (Some value) before → is_some after ≡ true
room_here path q value before after same is =
    ap is_some (is ∙ ap (λ b. cond b (Some value) before) (same_key path q ∙ (same_path-decides q path).1 (sym same)))

-- files are kept from one table to another, and from that to a third
pub kept_all : (table : FileStamps) → AreKept table table
kept_all table = record { first = refl; stamps = λ path. refl; room = λ path had. had }

pub kept_more : (old middle new : FileStamps) → AreKept old middle → AreKept middle new → AreKept old new
kept_more old middle new first next = record {
  first = next.first ∙ first.first;
  stamps = λ path. next.stamps path ∙ first.stamps path;
  room = λ path had. next.room path (first.room path had);
}

-- room for the outputs of one rule of the reach more
pub rooms_more : (rules : List Rule) (reach : List ℕ) (i at : ℕ) (item : Rule) (old new : FileStamps) → i < length reach → at ≡ get_or reach i at → slice_get rules at ≡ Some item → AreKept old new →
    ((path : Names) → writes item path ≡ true → has_room new path ≡ true) → HasRoomFor rules (is_one_of (take i reach)) old → HasRoomFor rules (is_one_of (take (i + 1) reach)) new
rooms_more rules reach i at item old new within is placed kept here before number rule path found there written =
    elim (or_cases (is_one_of (take i reach) number) (number == get_or reach i at) (sym (list_any_more (λ n. number == n) reach i at within) ∙ found)) [
      | inl front ↦ kept.room path (before number rule path front there written)
      | inr last ↦
          let same : number ≡ at = eqb-true number (get_or reach i at) last ∙ sym is in
          let equal : rule ≡ item = same_Some rule item (sym there ∙ ap (slice_get rules) same ∙ placed) in
          here path (ap (λ (r : Rule). writes r path) (sym equal) ∙ written)
    ]

-- room for one path more
pub room_more : (paths : List Names) (i : ℕ) (item : Names) (old new : FileStamps) → i < length paths → item ≡ get_or paths i item → AreKept old new → has_room new item ≡ true →
    ((path : Names) → among path (take i paths) ≡ true → has_room old path ≡ true) → (path : Names) → among path (take (i + 1) paths) ≡ true → has_room new path ≡ true
room_more paths i item old new within is kept here before path found =
    elim (or_cases (among path (take i paths)) (same_path path (get_or paths i item)) (sym (list_any_more (same_path path) paths i item within) ∙ found)) [
      | inl front ↦ kept.room path (before path front)
      | inr last ↦ ap (has_room new) ((same_path-decides path (get_or paths i item)).0 last ∙ sym is) ∙ here
    ]

-- one more file at the end
pub with_stamps-push : (written : List (Names × Stamp)) (files : Names → Option Stamp) (file : Names × Stamp) (q : Names) →
    with_stamps files (written ++ file ∷ []) q ≡ (if same_path q file.0 then Some file.1 else with_stamps files written q)
with_stamps-push [] files file q = refl
with_stamps-push (first ∷ written) files file q = with_stamps-push written (λ path. if same_path path first.0 then Some first.1 else files path) file q

-- room is the same once a path that had room has got a stamp
pub room_same : (path q : Names) (value : Option Stamp) (before after : Option (Option Stamp)) → (path ≡ q → is_some before ≡ true) → after ≡ cond (eq_by_cmp by_names path q) (Some value) before → is_some after ≡ is_some before
room_same path q value before after has is = ap is_some is ∙ either (eq_by_cmp by_names path q) refl
  where
    either : (b : Bool) → eq_by_cmp by_names path q ≡ b → is_some (cond b (Some value) before) ≡ is_some before
    either true same = sym (has (sym ((same_path-decides q path).0 (sym (same_key path q) ∙ same))))
    either false apart = refl

-- ---- files in a list

-- a listed file's path is among the paths
pub written_among : (files : List (Names × Stamp)) (i : ℕ) (file : Names × Stamp) → i < length files → file ≡ get_or files i file → among file.0 (paths_in files) ≡ true
written_among [] i file less is = absurd (omega arith)
written_among (first ∷ files) zero file less is = or_left (same_path file.0 first.0) (among file.0 (paths_in files)) ((same_path-decides file.0 first.0).1 (ap (λ (f : Names × Stamp). f.0) is))
written_among (first ∷ files) (suc i) file less is = or_right (same_path file.0 first.0) (among file.0 (paths_in files)) (written_among files i file (omega arith) is)

-- one file more
pub with_stamps-more : (files : List (Names × Stamp)) (i : ℕ) (file : Names × Stamp) (old : Names → Option Stamp) (q : Names) → i < length files → file ≡ get_or files i file →
    with_stamps old (take (i + 1) files) q ≡ (if same_path q file.0 then Some file.1 else with_stamps old (take i files) q)
with_stamps-more files i file old q less is =
    ap (λ (l : List (Names × Stamp)). with_stamps old l q) (take_more files i file less ∙ ap (λ (f : Names × Stamp). take i files ++ f ∷ []) (sym is)) ∙ with_stamps-push (take i files) old file q

-- files with the paths of a list, one by one
pub paths_all : (outputs : List Names) (files : List (Names × Stamp)) → length files ≡ length outputs → ((k : ℕ) → k < length files → get_or (paths_in files) k [] ≡ get_or outputs k []) → paths_in files ≡ outputs
paths_all outputs files long same =
    let many : length (paths_in files) ≡ length files = length-map files (λ (file : Names × Stamp). file.0) in
    ext_get_or [] (paths_in files) outputs (many ∙ long) (λ i below. same i (subst (λ (n : ℕ). i < n) many below))

-- the path of a file at a place
pub path_at : (files : List (Names × Stamp)) (i : ℕ) (file : Names × Stamp) → i < length files → file ≡ get_or files i file → get_or (paths_in files) i [] ≡ file.0
path_at [] i file less is = absurd (omega arith)
path_at (first ∷ files) zero file less is = sym (ap (λ (f : Names × Stamp). f.0) is)
path_at (first ∷ files) (suc i) file less is = path_at files i file (omega arith) is

path_read : (files : List (Names × Stamp)) (i : ℕ) (file : Names × Stamp) → i < length files → get_or (paths_in files) i [] ≡ (get_or files i file).0
path_read files i file less = path_at files i (get_or files i file) less (get_or_default files i file (get_or files i file) less)

-- two lists of paths that differ at a place
pub paths_apart : (outputs : List Names) (files : List (Names × Stamp)) (i : ℕ) (file : Names × Stamp) (output : Names) → i < length files → length files ≡ length outputs → file ≡ get_or files i file → output ≡ get_or outputs i output →
    same_path (get_or files i file).0 output ≡ false → paths_in files ≡ outputs → ⊥
paths_apart outputs files i file output less long is there apart same =
    let within : i < length outputs = subst (λ (n : ℕ). i < n) long less in
    let equal : (get_or files i file).0 ≡ output = sym (path_read files i file less) ∙ ap (λ (l : List Names). get_or l i []) same ∙ sym (get_or_read outputs i output within there []) in
    true≢false (sym ((same_path-decides (get_or files i file).0 output).1 equal) ∙ apart)

-- or are the same so far
pub paths_more : (outputs : List Names) (files : List (Names × Stamp)) (i : ℕ) (file : Names × Stamp) (output : Names) → i < length files → length files ≡ length outputs → output ≡ get_or outputs i output →
    same_path (get_or files i file).0 output ≡ true → ((k : ℕ) → k < i → get_or (paths_in files) k [] ≡ get_or outputs k []) → (k : ℕ) → k < i + 1 → get_or (paths_in files) k [] ≡ get_or outputs k []
paths_more outputs files i file output less long there test before k below = elim (cases_eq k i) [
  | inr apart ↦ before k (nearer k i apart below)
  | inl same ↦
      let within : i < length outputs = subst (λ (n : ℕ). i < n) long less in
      ap (λ (n : ℕ). get_or (paths_in files) n []) same ∙ path_read files i file less ∙ (same_path-decides (get_or files i file).0 output).0 test ∙ get_or_read outputs i output within there []
      ∙ ap (λ (n : ℕ). get_or outputs n []) (sym same)
]
  where
    nearer : (n m : ℕ) → (n ≡ m → ⊥) → n < m + 1 → n < m
    nearer n m apart below = omega arith
