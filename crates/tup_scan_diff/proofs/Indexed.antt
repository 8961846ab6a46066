-- Indexes of files, one file after another.
use Rattle.std.specs.Prelude.{◌≡◌, ◌⊎◌, ◌↔◌, ◌+◌, ◌<◌, Bool, true, false, List, ℕ, [], ◌∷◌, ◌++◌, Contains, map, codes, length, cond, Option, None, Some, IfSome, ◌≢◌, is_some}
use Rattle.std.proofs.Common.{refl, sym, ap, subst, ◌∙◌, inl, inr, take, get_or, arith}
use Rattle.std.specs.BTreeSet.{BTreeSet, contains}
use Rattle.std.specs.Ordering.{eq_by_cmp}
use Rattle.std.specs.FinMap as finite
use Rattle.std.specs.List.{list_any}
use Rattle.std.specs.FinMap.Entries.{is_some-find}
use Rattle.std.proofs.lemmas.Bool.{true≢false}
use Rattle.std.proofs.lemmas.List.{map-append}
use Rattle.std.proofs.lemmas.List.Elements.{Contains-push, Contains-push_cases, Contains-append_left}
use Rattle.tup_path.specs.Name.{Names}
use Rattle.tup_path.specs.Order.{by_names, by_names-antisymmetric, by_names-total}
use Rattle.tup_path.specs.Tree.{IsBelow}
use Rattle.tup_path.proofs.Same.{by_names-decides}
use Rattle.tup_stamp.specs.declared.Stamp.{Stamp}
use Rattle.tup_graph.specs.Answers.{tupfile, IsSource}
use Rattle.tup_graph.specs.Graph.{GraphState, is_owned, source}
use Rattle.tup_closure.specs.Grows.{Grows}
use Rattle.tup_closure.specs.Lists.{last_of, list_of, IsListed}
use Rattle.tup_closure.specs.declared.lists.Lists.{Lists}
use Rattle.tup_closure.proofs.Asked.{taken}
use Rattle.tup_closure.proofs.Growing.{grows_on, grows_as, grows_nothing}
use Rattle.tup_closure.proofs.Members.{in_empty, in_list, listed}
use Rattle.tup_scan_diff.specs.Index.{AddsFile, HasBelow, HasTupfile, IsAddedIf, IsBeside, IsClosed, IsIndexOf, IsSourceAmong}
use Rattle.tup_scan_diff.specs.Present.{seeing}
use Rattle.tup_scan_diff.specs.Sets.{Has}
use Rattle.tup_scan_diff.specs.declared.index.Index.{Index}
use Rattle.tup_scan_diff.proofs.Paths.{below_either, below_further, below_its_folder, below_through, none_below_top, one_folder, one_name}

-- ---- no files

nothing_listed : {X : Type 0} (list : List X) (x : X) → list ≡ [] → Contains list x → ⊥
nothing_listed list x none h = let less = h.1 in let long = ap length none in omega arith

nothing_there : (set : BTreeSet Names) (dir : Names) → set.keys ≡ [] → contains by_names set dir ≡ true → ⊥
nothing_there set dir none is = true≢false (sym is ∙ in_empty by_names by_names-decides set dir none)

pub no_index : (index : Index) → ((dir : Names) → list_of index.names dir ≡ []) → index.tupfiles.keys ≡ [] → index.folders.keys ≡ [] → IsIndexOf (λ path. ⊥) index
no_index index names tupfiles folders = record {
  names = λ dir name. (λ h. nothing_listed (list_of index.names dir) name (names dir) h, λ never. absurd never);
  tupfiles = λ dir. (λ h. nothing_there index.tupfiles dir tupfiles h, λ never. absurd never);
  folders = λ dir. (λ h. absurd (nothing_there index.folders dir folders h), λ (file, below, never). absurd never);
}

-- of the same files, said otherwise
pub index_as : (P Q : Names → Type 0) → ((p : Names) → P p → Q p) → ((p : Names) → Q p → P p) → (index : Index) → IsIndexOf P index → IsIndexOf Q index
index_as P Q to from index is = record {
  names = λ dir name. (λ h. to (dir ++ name ∷ []) ((is.names dir name).0 h), λ q. (is.names dir name).1 (from (dir ++ name ∷ []) q));
  tupfiles = λ dir. (λ h. to (tupfile dir) ((is.tupfiles dir).0 h), λ q. (is.tupfiles dir).1 (from (tupfile dir) q));
  folders = λ dir. (
    λ h. let (p, below, is_file) = (is.folders dir).0 h in (p, below, to p is_file),
    λ (p, below, is_file). (is.folders dir).1 (p, below, from p is_file),
  );
}

-- ---- one file more

both_ways : {X : Type 0} {P Old New : X → Type 0} (Was Is : X → Type 0) → ((x : X) → Old x ↔ Was x) → Grows P Old New → ((x : X) → Was x → Is x) → ((x : X) → P x → Is x) → ((x : X) → Is x → Was x ⊎ P x) → (x : X) → New x ↔ Is x
both_ways {X} {P} {Old} {New} Was Is old grows kept added only x = (to (grows.only x), λ is. from (only x is))
  where
    to : (New x → Old x ⊎ P x) → New x → Is x
    to cases new = elim (cases new) [ inl o ↦ kept x ((old x).0 o) | inr p ↦ added x p ]

    from : Was x ⊎ P x → New x
    from (inl w) = grows.kept x ((old x).1 w)
    from (inr p) = grows.all x p

module _ (IsFile IsFileNow : Names → Type 0) (path : Names) (kept : (p : Names) → IsFile p → IsFileNow p) (added : IsFileNow path) (only : (p : Names) → IsFileNow p → IsFile p ⊎ (path ≡ p)) where
  pub index_more : (old new : Index) → IsIndexOf IsFile old → AddsFile path old new → IsIndexOf IsFileNow new
  index_more old new is adds = record {
    names = λ dir name. both_ways (λ (place : Names × List ℕ). IsFile (place.0 ++ place.1 ∷ [])) (λ (place : Names × List ℕ). IsFileNow (place.0 ++ place.1 ∷ []))
        (λ place. is.names place.0 place.1) adds.names (λ place. kept (place.0 ++ place.1 ∷ [])) (λ place e. subst IsFileNow e added)
        (λ place. only (place.0 ++ place.1 ∷ [])) (dir, name);
    tupfiles = both_ways (λ dir. IsFile (tupfile dir)) (λ dir. IsFileNow (tupfile dir)) is.tupfiles adds.tupfiles (λ dir. kept (tupfile dir)) (λ dir e. subst IsFileNow e added) (λ dir. only (tupfile dir));
    folders = both_ways (λ dir. (file : Names) × IsBelow dir file × IsFile file) (λ dir. (file : Names) × IsBelow dir file × IsFileNow file) is.folders adds.folders
        (λ dir (file, below, was). (file, below, kept file was)) (λ dir below. (path, below, added))
        (λ dir (file, below, now). said dir file below (only file now));
  }
    where
      said : (dir file : Names) → IsBelow dir file → IsFile file ⊎ (path ≡ file) → ((file : Names) × IsBelow dir file × IsFile file) ⊎ IsBelow dir path
      said dir file below (inl was) = inl (file, below, was)
      said dir file below (inr e) = inr (subst (IsBelow dir) (sym e) below)

-- ---- the sources among the first of some files

abbrev path_of : Names × Stamp → Names
path_of file = file.0

pub no_sources : (g : GraphState) (index : Index) → IsIndexOf (λ path. ⊥) index → IsIndexOf (IsSourceAmong g []) index
no_sources g index = index_as (λ path. ⊥) (IsSourceAmong g []) (λ p never. absurd never) (λ p (h, unowned). none p h) index
  where
    none : (p : Names) → Contains [] p → ⊥
    none p h = let less = h.1 in omega arith

module _ (g : GraphState) (files : List (Names × Stamp)) (file : Names × Stamp) where
  abbrev more : List (Names × Stamp)
  more = files ++ file ∷ []

  grown : map path_of more ≡ map path_of files ++ file.0 ∷ []
  grown = map-append path_of files (file ∷ [])

  longer : (p : Names) → IsSourceAmong g files p → IsSourceAmong g more p
  longer p (h, unowned) = (subst (λ (l : List Names). Contains l p) (sym grown) (Contains-append_left (map path_of files) (file.0 ∷ []) p h), unowned)

  shorter : (p : Names) → IsSourceAmong g more p → IsSourceAmong g files p ⊎ ((file.0 ≡ p) × (is_owned g p ≡ false))
  shorter p (h, unowned) = elim (Contains-push_cases (map path_of files) file.0 p (subst (λ (l : List Names). Contains l p) grown h)) [
    | inl before ↦ inl (before, unowned)
    | inr last ↦ inr (last, unowned)
  ]

  pub source_pushed : (old new : Index) → IsIndexOf (IsSourceAmong g files) old → IsAddedIf (is_owned g file.0) file.0 old new → IsIndexOf (IsSourceAmong g more) new
  source_pushed old new is = either (is_owned g file.0) refl
    where
      either : (b : Bool) → is_owned g file.0 ≡ b → IsAddedIf b file.0 old new → IsIndexOf (IsSourceAmong g more) new
      either true owned same = subst (IsIndexOf (IsSourceAmong g more)) (sym same) (record {
        names = λ dir name. to (IsListed old.names (dir, name)) (dir ++ name ∷ []) (is.names dir name);
        tupfiles = λ dir. to (HasTupfile old dir) (tupfile dir) (is.tupfiles dir);
        folders = λ dir. (
          λ h. let (p, below, was) = (is.folders dir).0 h in (p, below, longer p was),
          λ (p, below, now). (is.folders dir).1 (p, below, back p now),
        );
      })
        where
          back : (p : Names) → IsSourceAmong g more p → IsSourceAmong g files p
          back p now = elim (shorter p now) [
            | inl before ↦ before
            | inr last ↦ absurd (true≢false (sym owned ∙ ap (is_owned g) last.0 ∙ last.1))
          ]

          to : (P : Type 0) (p : Names) → (P ↔ IsSourceAmong g files p) → P ↔ IsSourceAmong g more p
          to P p h = (λ x. longer p (h.0 x), λ now. h.1 (back p now))
      either false unowned adds = index_more (IsSourceAmong g files) (IsSourceAmong g more) file.0 longer
          (subst (λ (l : List Names). Contains l file.0) (sym grown) (Contains-push (map path_of files) file.0), unowned)
          (λ p now. elim (shorter p now) [ inl before ↦ inl before | inr last ↦ inr last.0 ])
          old new is adds

-- one more of the first of some files
pub source_more : (g : GraphState) (files : List (Names × Stamp)) (i : ℕ) (file d : Names × Stamp) (old new : Index) → i < length files → file ≡ get_or files i d → IsIndexOf (IsSourceAmong g (take i files)) old
    → IsAddedIf (is_owned g file.0) file.0 old new → IsIndexOf (IsSourceAmong g (take (i + 1) files)) new
source_more g files i file d old new less here is adds =
    subst (λ (l : List (Names × Stamp)). IsIndexOf (IsSourceAmong g l) new) (sym (taken files i file d less here)) (source_pushed g (take i files) file old new is adds)

-- ---- all of them

module _ (g : GraphState) (files : List (Names × Stamp)) where
  abbrev stamps : finite.FinMap by_names Stamp
  stamps = finite.from_entries files

  named : (p : Names) → finite.contains_key stamps p ≡ list_any (eq_by_cmp by_names p) (map path_of files)
  named p = ap is_some (finite.get-from_entries by_names-total files p) ∙ is_some-find by_names p files

  is_source : (p : Names) → IsSourceAmong g files p → IsSource (source (seeing g stamps)) p
  is_source p (h, unowned) =
      ap (λ (b : Bool). is_some (cond b None (finite.get stamps p))) unowned ∙ named p ∙ in_list by_names by_names-decides (map path_of files) p h

  source_is : (p : Names) (b : Bool) → is_owned g p ≡ b → is_some (cond b None (finite.get stamps p)) ≡ true → IsSourceAmong g files p
  source_is p true owned never = cc
  source_is p false unowned some = (listed by_names by_names-decides (map path_of files) p (sym (named p) ∙ some), unowned)

  -- an index of the sources among files is one of the sources of the graph that sees these files
  pub index_of_sources : (index : Index) → IsIndexOf (IsSourceAmong g files) index → IsIndexOf (IsSource (source (seeing g stamps))) index
  index_of_sources index is = record {
    names = λ dir name. to (IsListed index.names (dir, name)) (dir ++ name ∷ []) (is.names dir name);
    tupfiles = λ dir. to (HasTupfile index dir) (tupfile dir) (is.tupfiles dir);
    folders = λ dir. (
      λ h. let (p, below, was) = (is.folders dir).0 h in (p, below, is_source p was),
      λ (p, below, now). (is.folders dir).1 (p, below, source_is p (is_owned g p) refl now),
    );
  }
    where
      to : (P : Type 0) (p : Names) → (P ↔ IsSourceAmong g files p) → P ↔ IsSource (source (seeing g stamps)) p
      to P p h = (λ x. is_source p (h.0 x), λ now. h.1 (source_is p (is_owned g p) refl now))

-- of those that a graph has seen
pub index_of_seen : (g : GraphState) (index : Index) → IsIndexOf (IsSourceAmong g (finite.entries g.seen)) index → IsIndexOf (IsSource (source g)) index
index_of_seen g index is = subst (λ (m : finite.FinMap by_names Stamp). IsIndexOf (IsSource (source (seeing g m))) index) seen_again (index_of_sources g (finite.entries g.seen) index is)
  where
    seen_again : finite.from_entries (finite.entries g.seen) ≡ g.seen
    seen_again = finite.same_map by_names-total by_names-antisymmetric (finite.from_entries (finite.entries g.seen)) g.seen (λ q.
        finite.get-from_entries by_names-total (finite.entries g.seen) q ∙ sym (finite.get-entries g.seen q))

-- ---- folders that are there

-- with a folder of an index come all above it
pub closed : (IsFile : Names → Type 0) (index : Index) → IsIndexOf IsFile index → IsClosed index.folders
closed IsFile index is = λ dir above_it has below.
    let (file, under, is_file) = (is.folders dir).0 has in
    (is.folders above_it).1 (file, below_through above_it dir file below under, is_file)

-- where the folder of a path is there, all above the path is
pub all_there : (folders : BTreeSet Names) (path dir : Names) (name : List ℕ) → path ≡ dir ++ name ∷ [] → IsClosed folders → Has by_names folders dir
    → Grows (λ d. IsBelow d path) (Has by_names folders) (Has by_names folders)
all_there folders path dir name is closed has = record {
  only = λ d there. inl there;
  all = λ d below. elim (below_either d dir path name is below) [
    | inl further ↦ closed dir d has further
    | inr same ↦ subst (Has by_names folders) (sym same) has
  ];
  kept = λ d there. there;
}

-- ---- one file in its folder

pub above_more : {A B C : Names → Type 0} (path dir : Names) (name : List ℕ) → path ≡ dir ++ name ∷ [] → Grows (λ d. IsBelow d dir) A B → Grows (λ d. d ≡ dir) B C → Grows (λ d. IsBelow d path) A C
above_more path dir name is first one = grows_as to (λ d below. below_either d dir path name is below) (grows_on first one)
  where
    to : (d : Names) → IsBelow d dir ⊎ (d ≡ dir) → IsBelow d path
    to d (inl below) = below_further d dir path name is below
    to d (inr e) = subst (λ (x : Names). IsBelow x path) (sym e) (below_its_folder dir path name is)

pub none_above : {A : Names → Type 0} (path : Names) → path ≡ [] → Grows (λ d. IsBelow d path) A A
none_above path top = grows_nothing (λ d below. none_below_top d path top below)

not_the_top : (path dir : Names) (name : List ℕ) → path ≡ [] → path ≡ dir ++ name ∷ [] → ⊥
not_the_top path dir name top is = none_below_top dir path top (below_its_folder dir path name is)

pub top_added : (path : Names) (index : Index) → path ≡ [] → AddsFile path index index
top_added path index top = record {
  names = grows_nothing (λ place is. not_the_top path place.0 place.1 top is);
  tupfiles = grows_nothing (λ dir is. not_the_top path dir (codes "Tupfile") top is);
  folders = none_above path top;
}

-- a path's name beside the file that was added last
pub beside_so : (index : Index) (path dir : Names) (found : Option (List ℕ)) → last_of index.names ≡ Some dir → IfSome found (λ name. (path ≡ dir ++ name ∷ []) × (name ≢ codes "Tupfile")) → IfSome found (IsBeside index path)
beside_so index path dir None last is = tt
beside_so index path dir (Some name) last is = record { dir = dir; last = last; parts = is.0; other = is.1 }

module _ (path : Names) (old mid new : Index) (same_names : mid.names ≡ old.names) (same_tupfiles : mid.tupfiles ≡ old.tupfiles) (folders : Grows (λ d. IsBelow d path) (HasBelow old) (HasBelow mid)) where
  module _ (dir : Names) (name : List ℕ) (is : path ≡ dir ++ name ∷ []) where
    place_to : (place : Names × List ℕ) → place ≡ (dir, name) → path ≡ place.0 ++ place.1 ∷ []
    place_to place e = is ∙ λ i. (sym e i).0 ++ (sym e i).1 ∷ []

    place_from : (place : Names × List ℕ) → path ≡ place.0 ++ place.1 ∷ [] → place ≡ (dir, name)
    place_from place e = λ i. (one_folder place.0 dir place.1 name (sym e ∙ is) i, one_name place.0 dir place.1 name (sym e ∙ is) i)

    pub adds_file : new.folders ≡ mid.folders → Grows (λ place. place ≡ (dir, name)) (IsListed mid.names) (IsListed new.names)
        → Grows (λ folder. (folder ≡ dir) × (name ≡ codes "Tupfile")) (HasTupfile mid) (HasTupfile new) → AddsFile path old new
    adds_file same names tupfiles = record {
      names = grows_as place_to place_from (subst (λ (l : Lists (List ℕ)). Grows (λ place. place ≡ (dir, name)) (IsListed l) (IsListed new.names)) same_names names);
      tupfiles = grows_as
          (λ folder (e, named). is ∙ λ i. sym e i ++ named i ∷ [])
          (λ folder e. (one_folder folder dir (codes "Tupfile") name (sym e ∙ is), sym (one_name folder dir (codes "Tupfile") name (sym e ∙ is))))
          (subst (λ (s : BTreeSet Names). Grows (λ folder. (folder ≡ dir) × (name ≡ codes "Tupfile")) (Has by_names s) (HasTupfile new)) same_tupfiles tupfiles);
      folders = subst (λ (s : BTreeSet Names). Grows (λ d. IsBelow d path) (HasBelow old) (Has by_names s)) (sym same) folders;
    }
