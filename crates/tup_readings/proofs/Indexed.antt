-- What an index of files in order says of their tree.
use Rattle.std.proofs.Common.{◌≡◌, ◌⊎◌, inl, inr, ℕ, Bool, true, false, cond, ◌||◌, List, [], ◌∷◌, ◌++◌, map, Option, Some, None, Ok, IsTrue, is_some, refl, sym, ap, ◌∙◌}
use Rattle.std.specs.Prelude.{bytes_eq, codes, option_map}
use Rattle.std.specs.Bool.{passes}
use Rattle.std.specs.BTreeMap.{get}
use Rattle.std.specs.BTreeSet.{BTreeSet, contains, insert_key}
use Rattle.std.specs.Cmp.{both_ways}
use Rattle.std.specs.FinMap as finite
use Rattle.std.specs.List.{list_any}
use Rattle.std.specs.Map.{keys_of}
use Rattle.std.specs.Ordering.{eq_by_cmp}
use Rattle.std.specs.Result.{result_ok}
use Rattle.std.specs.declared.cmp.Ordering.TheVariants.{Equal}
use Rattle.tup_path.specs.Gives.{GivesUnless}
use Rattle.tup_path.specs.Name.{Names, Content}
use Rattle.tup_path.specs.Order.{by_bytes, by_names, by_names-antisymmetric, same_path, same_path-by_names}
use Rattle.tup_path.specs.Resolve.{above}
use Rattle.tup_path.specs.Tree.{Tree}
use Rattle.tup_path.proofs.Same.{same_path-decides, same_bytes-decides}
use Rattle.tup_path.specs.declared.fault.PathFault.{PathFault}
use Rattle.tup_path.specs.declared.fault.PathFault.TheVariants as path_fault
use Rattle.tup_rule_line.specs.Glob.{in_order}
use Rattle.tup_readings.specs.Sources.{is_source, tupfile, has_tupfile, home, is_below, has_below, names_in_folder, folder_of}
use Rattle.tup_readings.specs.Index.{AreTupfiles, FolderMap, names_of, AreFolders, AddsAbove, AddsFile, AddsFolders, or_none, AddsName}
use Rattle.tup_readings.proofs.Below.{above_named, last_item, nothing_below, below_named, has_below_through, lasts, not_below_itself, none_in_it, or_false, with_file, with_top}
use Rattle.tup_readings.proofs.Homes.{home_own, home_above}

-- ---- a path as its folder and its name

pub parted_some : (path rest dir : Names) (last name : List ℕ) → path ≡ rest ++ last ∷ [] → name ≡ last
    → GivesUnless {T = Option Names} {E = PathFault} (Ok (Some dir)) path_fault.Memory (Ok (result_ok (above path))) → path ≡ dir ++ name ∷ []
parted_some path rest dir last name is same (inl e) = cc
parted_some path rest dir last name is same (inr e) =
    let up : Some dir ≡ result_ok (above path) = cc in
    let there : Some dir ≡ Some rest = up ∙ ap (λ p. result_ok (above p)) is ∙ above_named rest last in
    let dir_is : dir ≡ rest = cc in
    is ∙ ap (λ d. d ++ last ∷ []) (sym dir_is) ∙ ap (λ n. dir ++ n ∷ []) (sym same)

pub parted_none : (path rest : Names) (last : List ℕ) → path ≡ rest ++ last ∷ [] → GivesUnless {T = Option Names} {E = PathFault} (Ok None) path_fault.Memory (Ok (result_ok (above path))) → path ≡ []
parted_none path rest last is (inl e) = cc
parted_none path rest last is (inr e) =
    let up : None ≡ result_ok (above path) = cc in
    let there : None ≡ Some rest = up ∙ ap (λ p. result_ok (above p)) is ∙ above_named rest last in
    cc

-- the folder that a path lies in, as it is given
pub parent_is : (path up : Names) → GivesUnless {T = Option Names} {E = PathFault} (Ok (Some up)) path_fault.Memory (Ok (result_ok (above path))) → (name : List ℕ) × (path ≡ up ++ name ∷ [])
parent_is path up given = by (last_item path) given
  where
    by : (path ≡ []) ⊎ ((rest : Names) × (last : List ℕ) × (path ≡ rest ++ last ∷ []))
        → GivesUnless {T = Option Names} {E = PathFault} (Ok (Some up)) path_fault.Memory (Ok (result_ok (above path))) → (name : List ℕ) × (path ≡ up ++ name ∷ [])
    by (inl top) (inl e) = cc
    by (inl top) (inr e) =
        let there : Some up ≡ result_ok (above path) = cc in
        let none : Some up ≡ None = there ∙ ap (λ p. result_ok (above p)) top in
        cc
    by (inr (rest, last, is)) found = (last, parted_some path rest up last last is refl found)

pub no_parent : (path : Names) → GivesUnless {T = Option Names} {E = PathFault} (Ok None) path_fault.Memory (Ok (result_ok (above path))) → path ≡ []
no_parent path given = by (last_item path)
  where
    by : (path ≡ []) ⊎ ((rest : Names) × (last : List ℕ) × (path ≡ rest ++ last ∷ [])) → path ≡ []
    by (inl top) = top
    by (inr (rest, last, is)) = parted_none path rest last is given

-- ---- the tree of files in order

pub keys_sorted : (files : List (Names × Content)) → IsTrue (finite.is_sorted by_names files) → finite.keys (finite.from_sorted {R = by_names} files) ≡ keys_of files
keys_sorted files up = ap (map (λ (e : Names × Content). e.0)) (finite.entries-from_sorted by_names files (passes _ up))

there_or_not : {A B : Type 0} (f : A → B) (found : Option A) → is_some (option_map f found) ≡ is_some found
there_or_not f None = refl
there_or_not f (Some x) = refl

pub none_there : {A : Type 0} (found : Option A) → is_some found ≡ false → found ≡ None
none_there None e = refl
none_there (Some x) e = cc

if_there : {A : Type 0} (b : Bool) (x : A) → is_some (cond b (Some x) None) ≡ b
if_there true x = refl
if_there false x = refl

the_same : {A : Type 0} (b : Bool) (x y : A) → Some x ≡ cond b (Some y) None → x ≡ y
the_same true x y e = cc
the_same false x y e = cc

is_off : {A : Type 0} (b : Bool) (x : A) → None ≡ cond b (Some x) None → b ≡ false
is_off true x e = cc
is_off false x e = refl

module _ (files : List (Names × Content)) (tree : Tree) (up : IsTrue (finite.is_sorted by_names files)) (is : finite.from_sorted {R = by_names} files ≡ tree) where
  keys_are : keys_of files ≡ finite.keys tree
  keys_are = sym (keys_sorted files up) ∙ ap (λ (t : Tree). finite.keys t) is

  module _ (folders : FolderMap) (are : AreFolders (keys_of files) folders) (dir : Names) where
    pub index_has : is_some (get by_names folders dir) ≡ has_below (finite.keys tree) dir
    index_has =
        sym (there_or_not (λ (set : BTreeSet (List ℕ)). set.keys) (get by_names folders dir)) ∙ ap (λ (names : Option (List (List ℕ))). is_some names) (are dir)
        ∙ if_there (has_below (keys_of files) dir) (names_in_folder (keys_of files) dir) ∙ ap (λ paths. has_below paths dir) keys_are

    pub index_names : (set : BTreeSet (List ℕ)) → Some set ≡ get by_names folders dir → set.keys ≡ names_in_folder (finite.keys tree) dir
    index_names set e =
        the_same (has_below (keys_of files) dir) set.keys (names_in_folder (keys_of files) dir) (ap (option_map (λ (s : BTreeSet (List ℕ)). s.keys)) e ∙ are dir)
        ∙ ap (λ paths. names_in_folder paths dir) keys_are

    pub index_none : None ≡ get by_names folders dir → [] ≡ names_in_folder (finite.keys tree) dir
    index_none e =
        let off : has_below (keys_of files) dir ≡ false = is_off (has_below (keys_of files) dir) (names_in_folder (keys_of files) dir) (ap (option_map (λ (s : BTreeSet (List ℕ)). s.keys)) e ∙ are dir) in
        ap in_order (sym (none_in_it dir (keys_of files) off)) ∙ ap (λ paths. names_in_folder paths dir) keys_are

  pub tupfile_has : (dirs : BTreeSet Names) → AreTupfiles (keys_of files) dirs → (dir : Names) → contains by_names dirs dir ≡ is_source tree (tupfile dir)
  tupfile_has dirs are dir =
      let path = tupfile dir in
      let tests : same_path path ≡ eq_by_cmp by_names path = λ i other. same_path-by_names path other i in
      are dir ∙ ap (λ (test : Names → Bool). list_any test (keys_of files)) tests ∙ ap (list_any (eq_by_cmp by_names path)) keys_are ∙ sym (finite.contains_key-keys tree path)

  -- the home of a folder, as it is looked up
  module _ (dirs : BTreeSet Names) (are : AreTupfiles (keys_of files) dirs) (dir : Names) where
    pub home_here : (found : Names) → contains by_names dirs dir ≡ true → by_names dir found ≡ Equal → Some found ≡ home tree dir
    home_here found there same = ap Some (sym (by_names-antisymmetric dir found same)) ∙ sym (home_own tree dir (sym (tupfile_has dirs are dir) ∙ there))

    pub home_up : (up : Names) → contains by_names dirs dir ≡ false → (name : List ℕ) × (dir ≡ up ++ name ∷ []) → home tree up ≡ home tree dir
    home_up up none (name, is) =
        sym (home_above tree up name (ap (has_tupfile tree) (sym is) ∙ sym (tupfile_has dirs are dir) ∙ none)) ∙ ap (home tree) (sym is)

    pub home_nowhere : contains by_names dirs dir ≡ false → dir ≡ [] → None ≡ home tree dir
    home_nowhere none top =
        sym (ap (λ b. cond b (Some []) None) (ap (has_tupfile tree) (sym top) ∙ sym (tupfile_has dirs are dir) ∙ none)) ∙ ap (home tree) (sym top)

-- ---- one folder more

same_end : (one other : Names) (name : List ℕ) → same_path (one ++ name ∷ []) (other ++ name ∷ []) ≡ same_path other one
same_end one other name = both_ways (same_path (one ++ name ∷ []) (other ++ name ∷ [])) (same_path other one)
    (λ e.
    let whole = (same_path-decides (one ++ name ∷ []) (other ++ name ∷ [])).0 e in
    let ups : Some one ≡ Some other = sym (above_named one name) ∙ ap (λ p. result_ok (above p)) whole ∙ above_named other name in
    let same : one ≡ other = cc in
    (same_path-decides other one).1 (sym same))
    (λ e. (same_path-decides (one ++ name ∷ []) (other ++ name ∷ [])).1 (ap (λ p. p ++ name ∷ []) (sym ((same_path-decides other one).0 e))))

-- the folder of a Tupfile is added
pub tupfile_added : (before : Bool) (path dir other : Names) (name : List ℕ) → path ≡ dir ++ name ∷ [] → bytes_eq name (codes "Tupfile") ≡ true
    → cond (eq_by_cmp by_names dir other) true before ≡ (before || same_path (tupfile other) path)
tupfile_added before path dir other name is same =
    let name_is : name ≡ codes "Tupfile" = (same_bytes-decides name (codes "Tupfile")).0 same in
    let test : same_path (tupfile other) path ≡ eq_by_cmp by_names dir other =
    ap (same_path (tupfile other)) (is ∙ ap (λ n. dir ++ n ∷ []) name_is) ∙ same_end other dir (codes "Tupfile") ∙ same_path-by_names dir other in
    either (eq_by_cmp by_names dir other) before ∙ ap (λ b. before || b) (sym test)
  where
    either : (b before : Bool) → cond b true before ≡ (before || b)
    either true true = refl
    either true false = refl
    either false true = refl
    either false false = refl

-- that of another file isn't
pub no_tupfile : (before : Bool) (path dir other : Names) (name : List ℕ) → path ≡ dir ++ name ∷ [] → bytes_eq name (codes "Tupfile") ≡ false
    → before ≡ (before || same_path (tupfile other) path)
no_tupfile before path dir other name is apart = by (same_path (tupfile other) path) refl
  where
    stays : (before : Bool) → before ≡ (before || false)
    stays true = refl
    stays false = refl

    by : (b : Bool) → same_path (tupfile other) path ≡ b → before ≡ (before || b)
    by false e = stays before
    by true e =
        let ends : codes "Tupfile" ≡ name = lasts other dir (codes "Tupfile") name ((same_path-decides (tupfile other) path).0 e ∙ is) in
        let wrong : true ≡ false = sym ((same_bytes-decides name (codes "Tupfile")).1 (sym ends)) ∙ apart in
        cc

-- the top isn't one
pub top_no_tupfile : (before : Bool) (path other : Names) → path ≡ [] → before ≡ (before || same_path (tupfile other) path)
top_no_tupfile before path other top = sym (or_false before) ∙ ap (λ b. before || b) (sym (ap (same_path (tupfile other)) top ∙ apart other))
  where
    apart : (dir : Names) → same_path (tupfile dir) [] ≡ false
    apart [] = refl
    apart (name ∷ dir) = refl

-- the top lies in no folder
pub nothing_added : (path dir : Names) (more before : Option (List (List ℕ))) → path ≡ [] → before ≡ cond (is_below dir path) more before
nothing_added path dir more before top = sym (ap (λ p. cond (is_below dir p) more before) top ∙ ap (λ b. cond b more before) (nothing_below dir))

none_before : (b : Bool) (x : List (List ℕ)) (before : Option (List (List ℕ))) → cond b (Some x) before ≡ None → before ≡ None
none_before true x before e = cc
none_before false x before e = e

some_before : (b : Bool) (before : Option (List (List ℕ))) → is_some (cond b (Some (or_none before)) before) ≡ true → cond b (Some (or_none before)) before ≡ Some (or_none before)
some_before true before e = refl
some_before false (Some x) e = refl
some_before false None e = cc

-- a folder comes behind those above it
pub folder_added : (path up dir : Names) (name : List ℕ) (old : Option (List (List ℕ))) (mid new : Option (BTreeSet (List ℕ))) (fresh : BTreeSet (List ℕ)) → path ≡ up ++ name ∷ []
    → option_map (λ (set : BTreeSet (List ℕ)). set.keys) mid ≡ cond (is_below dir up) (Some (or_none old)) old
    → (dir ≡ up → mid ≡ None) → new ≡ cond (eq_by_cmp by_names up dir) (Some fresh) mid → fresh.keys ≡ []
    → option_map (λ (set : BTreeSet (List ℕ)). set.keys) new ≡ cond (is_below dir path) (Some (or_none old)) old
folder_added path up dir name old mid new fresh is above unread added empty =
    ap (option_map (λ (set : BTreeSet (List ℕ)). set.keys)) (added ∙ ap (λ b. cond b (Some fresh) mid) test) ∙ by (same_path dir up) refl
    ∙ ap (λ b. cond b (Some (or_none old)) old) (sym (below_named dir up name) ∙ ap (is_below dir) (sym is))
  where
    test : eq_by_cmp by_names up dir ≡ same_path dir up
    test = sym (same_path-by_names up dir) ∙ both_ways (same_path up dir) (same_path dir up)
        (λ e. (same_path-decides dir up).1 (sym ((same_path-decides up dir).0 e))) (λ e. (same_path-decides up dir).1 (sym ((same_path-decides dir up).0 e)))

    by : (b : Bool) → same_path dir up ≡ b
        → option_map (λ (set : BTreeSet (List ℕ)). set.keys) (cond b (Some fresh) mid) ≡ cond (b || is_below dir up) (Some (or_none old)) old
    by false e = above
    by true e =
        let none : mid ≡ None = unread ((same_path-decides dir up).0 e) in
        let before : old ≡ None = none_before (is_below dir up) (or_none old) old (sym above ∙ ap (option_map (λ (set : BTreeSet (List ℕ)). set.keys)) none) in
        ap (λ l. Some l) (empty ∙ sym (ap or_none before))

-- it was there
pub folder_there : (path up dir : Names) (name : List ℕ) (old : Option (List (List ℕ))) (mid : Option (BTreeSet (List ℕ))) → path ≡ up ++ name ∷ []
    → option_map (λ (set : BTreeSet (List ℕ)). set.keys) mid ≡ cond (is_below dir up) (Some (or_none old)) old
    → (dir ≡ up → is_some mid ≡ true) → option_map (λ (set : BTreeSet (List ℕ)). set.keys) mid ≡ cond (is_below dir path) (Some (or_none old)) old
folder_there path up dir name old mid is above there =
    above ∙ by (same_path dir up) refl ∙ ap (λ b. cond b (Some (or_none old)) old) (sym (below_named dir up name) ∙ ap (is_below dir) (sym is))
  where
    by : (b : Bool) → same_path dir up ≡ b → cond (is_below dir up) (Some (or_none old)) old ≡ cond (b || is_below dir up) (Some (or_none old)) old
    by false e = refl
    by true e = some_before (is_below dir up) old
        (ap (λ (names : Option (List (List ℕ))). is_some names) (sym above) ∙ there_or_not (λ (set : BTreeSet (List ℕ)). set.keys) mid ∙ there ((same_path-decides dir up).0 e))

-- ---- all above a folder are there

pub all_above : (folders : FolderMap) (path : Names) → is_some (get by_names folders path) ≡ true → AddsAbove path folders folders
all_above folders path there paths are dir = by (is_below dir path) refl
  where
    has : has_below paths path ≡ true
    has =
        sym (if_there (has_below paths path) (names_in_folder paths path)) ∙ ap (λ (names : Option (List (List ℕ))). is_some names) (sym (are path))
        ∙ there_or_not (λ (set : BTreeSet (List ℕ)). set.keys) (get by_names folders path) ∙ there

    by : (b : Bool) → is_below dir path ≡ b → names_of folders dir ≡ cond b (Some (or_none (names_of folders dir))) (names_of folders dir)
    by true e =
        let some : names_of folders dir ≡ Some (names_in_folder paths dir) = are dir ∙ ap (λ b. cond b (Some (names_in_folder paths dir)) None) (has_below_through dir path paths e has) in
        some ∙ ap (λ (found : Option (List (List ℕ))). Some (or_none found)) (sym some)
    by false e = refl

-- a folder that isn't there isn't among those above it either
pub none_yet : (dir : Names) (old mid : FolderMap) → AddsFolders dir old mid → get by_names old dir ≡ None → get by_names mid dir ≡ None
none_yet dir old mid adds none =
    none_there (get by_names mid dir)
    (sym (there_or_not (λ (set : BTreeSet (List ℕ)). set.keys) (get by_names mid dir))
    ∙ ap (λ (names : Option (List (List ℕ))). is_some names)
    (adds dir ∙ ap (λ b. cond b (Some (or_none (names_of old dir))) (names_of old dir)) (not_below_itself dir) ∙ ap (option_map (λ (set : BTreeSet (List ℕ)). set.keys)) none))

-- ---- one name more

pub name_added : (dir other : Names) (name : List ℕ) (old new : Option (BTreeSet (List ℕ))) (set : BTreeSet (List ℕ)) → new ≡ cond (eq_by_cmp by_names dir other) (Some set) old
    → (other ≡ dir → set.keys ≡ insert_key by_bytes (or_none (option_map (λ (s : BTreeSet (List ℕ)). s.keys) old)) name)
    → option_map (λ (s : BTreeSet (List ℕ)). s.keys) new
    ≡ cond (same_path other dir) (Some (insert_key by_bytes (or_none (option_map (λ (s : BTreeSet (List ℕ)). s.keys) old)) name)) (option_map (λ (s : BTreeSet (List ℕ)). s.keys) old)
name_added dir other name old new set changed keys =
    ap (option_map (λ (s : BTreeSet (List ℕ)). s.keys)) (changed ∙ ap (λ b. cond b (Some set) old) test) ∙ by (same_path other dir) refl
  where
    test : eq_by_cmp by_names dir other ≡ same_path other dir
    test = sym (same_path-by_names dir other) ∙ both_ways (same_path dir other) (same_path other dir)
        (λ e. (same_path-decides other dir).1 (sym ((same_path-decides dir other).0 e))) (λ e. (same_path-decides dir other).1 (sym ((same_path-decides other dir).0 e)))

    by : (b : Bool) → same_path other dir ≡ b → option_map (λ (s : BTreeSet (List ℕ)). s.keys) (cond b (Some set) old)
        ≡ cond b (Some (insert_key by_bytes (or_none (option_map (λ (s : BTreeSet (List ℕ)). s.keys) old)) name)) (option_map (λ (s : BTreeSet (List ℕ)). s.keys) old)
    by false e = refl
    by true e = ap Some (keys ((same_path-decides other dir).0 e))

-- ---- one file more

pub file_added : (path up : Names) (name : List ℕ) (old mid new : FolderMap) → path ≡ up ++ name ∷ [] → AddsAbove up old mid → AddsName up name mid new → AddsFile path old new
file_added path up name old mid new is folders named paths are dir =
    named dir
    ∙ ap (λ (found : Option (List (List ℕ))). cond (same_path dir up) (Some (insert_key by_bytes (or_none found) name)) found)
    (folders paths are dir ∙ ap (λ (found : Option (List (List ℕ))). cond (is_below dir up) (Some (or_none found)) found) (are dir))
    ∙ with_file paths dir up name ∙ ap (λ p. folder_of (paths ++ p ∷ []) dir) (sym is)

pub top_added : (path : Names) (folders : FolderMap) → path ≡ [] → AddsFile path folders folders
top_added path folders top paths are dir = are dir ∙ sym (with_top paths dir) ∙ ap (λ p. folder_of (paths ++ p ∷ []) dir) (sym top)
