-- The sources of a tree: their keys, that they are a tree themselves, how they are read and what they are read as.
use Rattle.std.proofs.Common.{◌≡◌, ◌≢◌, T, ℕ, ◌+◌, ◌<◌, is_some, Result, Err, Bool, true, false, cond, not, ◌||◌, filter, List, [], ◌∷◌, length, take, get_or, Option, None, Some, IsSome, map, All, refl, sym, ◌∙◌, ap, subst}
use Rattle.std.specs.List.{list_any}
use Rattle.std.proofs.lemmas.Bool.{false≢true, or_right}
use Rattle.std.proofs.lemmas.List.Folds.{list_any_at, list_any_more}
use Rattle.std.specs.FinMap as finite
use Rattle.std.specs.FinMap.Entries.{where_key, is_sorted, is_sorted-where_key, find-where_key}
use Rattle.std.specs.declared.cmp.Ordering.TheVariants.{Equal}
use Rattle.std.proofs.lemmas.List.Elements.{All-filter}
use Rattle.tup_path.specs.Name.{Names, Content, IsPath}
use Rattle.tup_path.specs.Order.{by_names, same_path, same_path-by_names, by_names-antisymmetric, by_names-total}
use Rattle.tup_path.specs.Tree.{Tree, IsTree}
use Rattle.tup_path.proofs.Same.{same_path-decides, same_tree, get_inserted, get_inserted_elsewhere}
use Rattle.tup_rule.specs.Rule.{among}
use Rattle.tup_rule.specs.declared.rule.Rule.{Rule}
use Rattle.tup_site.specs.World.{World}
use Rattle.tup_link.specs.declared.fault.What.TheVariants.{Commands, Links}
use Rattle.tup_project.specs.Project.{ComeTo}
use Rattle.tup_project.specs.declared.fault.ProjectFault.{ProjectFault}
use Rattle.tup_project.specs.declared.fault.ProjectFault.TheVariants as project
use Rattle.tup_site.specs.Cause.{IsTooLarge}
use Rattle.tup_site.specs.declared.fault.SiteFailed.{SiteFailed}
use Rattle.tup_site.specs.declared.fault.SiteFailed.TheVariants.{Fault, TooLarge, Memory}
use Rattle.tup_compare.specs.Holding.{Holding, Lists, Shows, holding}
use Rattle.tup_compare.specs.Found.{AddsFile, AgreesOnItsFiles, IsFound, IsOfRules, IsRefusal, IsTooMany, IsUnread}
use Rattle.tup_compare.specs.Sources.{files_beside, sources, ReadAs}
use Rattle.tup_promise.specs.Cause.{HasCountedCause}
use Rattle.tup_compare.specs.Stopped.{stop_of, unread_of_project}
use Rattle.tup_compare.specs.declared.found.Found.{Found}
use Rattle.tup_compare.specs.declared.unread.Unread.{Unread}
use Rattle.tup_compare.specs.declared.unread.Unread.TheVariants.{Sources as NoRules, Outside as Unlucky}
use Rattle.tup_compare.proofs.Beside.{get_beside, left_is}

keys-where_key : (p : Names → Bool) (entries : List (Names × Content)) →
    map (λ (e : Names × Content). e.0) (where_key by_names p entries) ≡ filter p (map (λ (e : Names × Content). e.0) entries)
keys-where_key p [] = refl
keys-where_key p (e ∷ entries) =
    elim (p e.0) as (λ b. map (λ (e : Names × Content). e.0) (cond b (e ∷ where_key by_names p entries) (where_key by_names p entries))
    ≡ cond b (e.0 ∷ filter p (map (λ (e : Names × Content). e.0) entries)) (filter p (map (λ (e : Names × Content). e.0) entries))) [
      | true ↦ ap (λ (l : List Names). e.0 ∷ l) (keys-where_key p entries)
      | false ↦ keys-where_key p entries
    ]

-- the entries that are left, as a list
entries_left : (paths : List Names) (tree : Tree) → files_beside paths tree ≡ finite.from_sorted (where_key by_names (λ path. not (among path paths)) (finite.entries tree))
entries_left paths tree =
    let kept : Names → Bool = λ path. not (among path paths) in
    let es = where_key by_names kept (finite.entries tree) in
    let sorted : T (is_sorted by_names es) = is_sorted-where_key by_names kept (finite.entries tree) (finite.entries_sorted tree) in
    let alike : (path other : Names) → by_names path other ≡ Equal → kept other ≡ kept path = λ path other tied. ap kept (sym (by_names-antisymmetric path other tied)) in
    finite.same_map by_names-total by_names-antisymmetric (files_beside paths tree) (finite.from_sorted es) (λ path.
    finite.get-retain_keys tree kept path (alike path)
    ∙ ap (λ (found : Option Content). cond (kept path) found None) (finite.get-entries tree path)
    ∙ sym (find-where_key by_names kept path (alike path) (finite.entries tree))
    ∙ sym (finite.get-from_sorted by_names es path sorted))

-- the paths that are left
pub keys_beside : (paths : List Names) (tree : Tree) → finite.keys (files_beside paths tree) ≡ filter (λ path. not (among path paths)) (finite.keys tree)
keys_beside paths tree =
    let kept : Names → Bool = λ path. not (among path paths) in
    let es = where_key by_names kept (finite.entries tree) in
    ap (λ (t : Tree). finite.keys t) (entries_left paths tree)
    ∙ ap (λ (l : List (Names × Content)). map (λ (e : Names × Content). e.0) l) (finite.entries-from_sorted by_names es (is_sorted-where_key by_names kept (finite.entries tree) (finite.entries_sorted tree)))
    ∙ keys-where_key kept (finite.entries tree)

-- what is left of a tree of files is one
pub is_tree_beside : (paths : List Names) (tree : Tree) → IsTree tree → IsTree (files_beside paths tree)
is_tree_beside paths tree is = record {
  paths = subst (All IsPath) (sym (keys_beside paths tree)) (All-filter _ IsPath _ is.paths);
  no_top = get_beside paths tree [] ∙ none_either (not (among [] paths)) (finite.get tree []) is.no_top;
  no_file_above = λ folder path above below_it is_below.
      is.no_file_above folder path
      (subst (λ (f : Option Content). IsSome f) (left_is paths tree folder above).1 above)
      (subst (λ (f : Option Content). IsSome f) (left_is paths tree path below_it).1 below_it) is_below;
}
  where
    none_either : (b : Bool) (found : Option Content) → found ≡ None → cond b found None ≡ None
    none_either true found e = e
    none_either false found e = refl

-- the paths of the sources are the keys of what is left
pub sources_are : (owned files sources : List Names) (inside : Names → Bool) (tree : Tree) → ((path : Names) → inside path ≡ among path owned) → files ≡ finite.keys tree →
    sources ≡ filter (λ path. not (inside path)) files → finite.keys (files_beside owned tree) ≡ sources
sources_are owned files sources inside tree tests keys is =
    keys_beside owned tree
    ∙ (λ i. filter (λ path. not (sym (tests path) i)) (sym keys i))
    ∙ sym is

-- a path is one of the keys where a file is
pub among_their_keys : (tree : Tree) (path : Names) → among path (finite.keys tree) ≡ is_some (finite.get tree path)
among_their_keys tree path = (λ i. list_any (λ other. same_path-by_names path other i) (finite.keys tree)) ∙ sym (finite.contains_key-keys tree path)

-- ---- files that are looked for one after another

-- the path at a place is among them
pub among_here : (paths : List Names) (i : ℕ) (path : Names) → i < length paths → get_or paths i path ≡ path → among path paths ≡ true
among_here paths i path within here = list_any_at (same_path path) paths i path within (ap (same_path path) here ∙ (same_path-decides path path).1 refl)

-- of these paths all files of a tree were found
abbrev pub HasFilesAt : Tree → List Names → Tree → Type 0
HasFilesAt tree paths files = (path : Names) → finite.get files path ≡ cond (among path paths) (finite.get tree path) None

-- none yet
pub none_found : (tree : Tree) → HasFilesAt tree [] finite.empty
none_found tree path = finite.get-empty by_names path

nothing_either : (b : Bool) (found : Option Content) → found ≡ None → cond b found None ≡ None
nothing_either true found e = e
nothing_either false found e = refl

-- a path at which a file was found, or none is
module _ (tree old new : Tree) (key path : Names) (before now : Bool) (is : finite.get old path ≡ cond before (finite.get tree path) None) where
  elsewhere : same_path path key ≡ false → now ≡ (before || same_path path key) → finite.get new path ≡ finite.get old path → finite.get new path ≡ cond now (finite.get tree path) None
  elsewhere other more same =
      same ∙ is ∙ ap (λ (b : Bool). cond b (finite.get tree path) None) (sym (or_false before) ∙ ap (λ (b : Bool). before || b) (sym other) ∙ sym more)
    where
      or_false : (b : Bool) → (b || false) ≡ b
      or_false true = refl
      or_false false = refl

  here : same_path path key ≡ true → now ≡ (before || same_path path key) → finite.get new key ≡ finite.get tree key → finite.get new path ≡ cond now (finite.get tree path) None
  here same more found =
      let at : path ≡ key = (same_path-decides path key).0 same in
      ap (finite.get new) at ∙ found ∙ ap (finite.get tree) (sym at)
      ∙ ap (λ (b : Bool). cond b (finite.get tree path) None) (sym (more ∙ ap (λ (b : Bool). before || b) same ∙ or_right before true refl))

  apart : same_path path key ≡ false → path ≢ key
  apart other at = false≢true (sym other ∙ (same_path-decides path key).1 at)

  pub one_looked_for : (found : Option Content) → finite.get tree key ≡ found → AddsFile key found old new → now ≡ (before || same_path path key) → finite.get new path ≡ cond now (finite.get tree path) None
  one_looked_for None none same more = by (same_path path key) refl
    where
      by : (b : Bool) → same_path path key ≡ b → finite.get new path ≡ cond now (finite.get tree path) None
      by true e =
          let nothing : finite.get tree path ≡ None = ap (finite.get tree) ((same_path-decides path key).0 e) ∙ none in
          ap (λ (t : Tree). finite.get t path) same ∙ is ∙ nothing_either before _ nothing ∙ sym (nothing_either now _ nothing)
      by false e = elsewhere e more (ap (λ (t : Tree). finite.get t path) same)
  one_looked_for (Some content) some put more = by (same_path path key) refl
    where
      by : (b : Bool) → same_path path key ≡ b → finite.get new path ≡ cond now (finite.get tree path) None
      by true e = here e more (ap (λ (t : Tree). finite.get t key) put ∙ get_inserted old key content ∙ sym some)
      by false e = elsewhere e more (ap (λ (t : Tree). finite.get t path) put ∙ get_inserted_elsewhere old key path content (apart e))

-- one more path was looked for
pub next_looked_for : (tree old new : Tree) (paths : List Names) (at : ℕ) (key : Names) → at < length paths → key ≡ get_or paths at key →
    HasFilesAt tree (take at paths) old → AddsFile key (finite.get tree key) old new → HasFilesAt tree (take (at + 1) paths) new
next_looked_for tree old new paths at key within here before adds path =
    one_looked_for tree old new key path (among path (take at paths)) (among path (take (at + 1) paths)) (before path) (finite.get tree key) refl adds
    (list_any_more (same_path path) paths at key within ∙ ap (λ (k : Names). among path (take at paths) || same_path path k) (sym here))

-- so all files of a part of a tree were found
pub all_found : (tree part files : Tree) (paths : List Names) → finite.keys part ≡ paths → AgreesOnItsFiles part tree → HasFilesAt tree paths files → files ≡ part
all_found tree part files paths keys agrees has = same_tree files part (λ path. has path ∙ by path (finite.get part path) refl)
  where
    tested : (path : Names) → among path paths ≡ is_some (finite.get part path)
    tested path = ap (among path) (sym keys) ∙ among_their_keys part path

    by : (path : Names) (found : Option Content) → finite.get part path ≡ found → cond (among path paths) (finite.get tree path) None ≡ finite.get part path
    by path (Some content) e =
        ap (λ (b : Bool). cond b (finite.get tree path) None) (tested path ∙ ap (λ (f : Option Content). is_some f) e)
        ∙ sym (agrees path (ap (λ (f : Option Content). is_some f) e))
    by path None e =
        ap (λ (b : Bool). cond b (finite.get tree path) None) (tested path ∙ ap (λ (f : Option Content). is_some f) e) ∙ sym e

-- ---- what is read of them

-- the sources are a tree of files
pub is_tree_of_sources : (w : World) (found : Found) → IsTree w.tree → IsFound w found → IsTree (sources (holding w found.owned))
is_tree_of_sources w found tree is = is_tree_beside found.owned w.tree tree

-- the files that were found are the sources
pub sources_read : (w : World) (found : Found) → IsFound w found → finite.from_sorted {R = by_names} found.sources ≡ sources (holding w found.owned)
sources_read w found is =
    ap (λ (l : List (Names × Content)). finite.from_sorted {R = by_names} l) is.sources
    ∙ finite.same_entries_map _ _ (finite.entries-from_sorted by_names (finite.entries (sources (holding w found.owned))) (finite.entries_sorted (sources (holding w found.owned))))

pub read_as : (w : World) (found : Found) (result : Result (List Rule) ProjectFault) → IsFound w found → ComeTo (finite.from_sorted {R = by_names} found.sources) result → ReadAs (holding w found.owned) result
read_as w found result is come = record {
  few = is.few;
  come_to = subst (λ (t : Tree). ComeTo t result) (sources_read w found is) come;
}

-- a fault of the project is one of the sources, or there was no memory
pub refused_as : (w : World) (found : Found) (fault : ProjectFault) → IsFound w found → ComeTo (finite.from_sorted {R = by_names} found.sources) (Err fault) → IsRefusal (holding w found.owned) (unread_of_project fault)
refused_as w found (project.Parse fault) is come = read_as w found _ is come
refused_as w found (project.CircularDirs dirs) is come = read_as w found _ is come
refused_as w found (project.NoSuchGroup group) is come = read_as w found _ is come
refused_as w found (project.CircularCommands names) is come = read_as w found _ is come
refused_as w found (project.TooMany Commands number) is come = read_as w found _ is come
refused_as w found (project.TooMany Links number) is come = read_as w found _ is come
refused_as w found project.Memory is come = refl

-- there are more files than may be read
pub too_many_unread : (w : World) (owned files : List Names) (unread : Unread) → Lists w.store owned → files ≡ finite.keys w.tree → IsTooMany (length files) unread → IsUnread w unread
too_many_unread w owned files unread lists keys is =
    subst (IsUnread w) (sym is.0) (holding w owned, record { lists = lists; tree = refl }, record { files = ap (λ (l : List Names). length l) keys; many = is.1 })

pub from_T : (b : Bool) → T b → b ≡ true
from_T true h = refl
from_T false h = absurd h

-- a file of the sources is the tree's
pub source_is : (held : Holding) (w : World) → Shows w held → (path : Names) (n : ℕ) → IsTooLarge (sources held) path n → IsTooLarge w.tree path n
source_is held w shows path n large = record {
  content = large.content;
  found =
      ap (λ (t : Tree). finite.get t path) (sym shows.tree)
      ∙ sym (left_is held.owned held.tree path (subst (λ (found : Option Content). IsSome found) (sym large.found) refl)).1 ∙ large.found;
  bytes = large.bytes;
}

-- one of the sources is too large
pub large_unread : (w : World) (owned paths : List Names) (failed : SiteFailed) → Lists w.store owned → finite.keys (files_beside owned w.tree) ≡ paths →
    ((n : ℕ) → failed ≡ TooLarge n → (path : Names) × (among path paths ≡ true) × IsTooLarge w.tree path n) → IsUnread w (Unlucky failed)
large_unread w owned paths Fault lists keys named = tt
large_unread w owned paths Memory lists keys named = tt
large_unread w owned paths (TooLarge n) lists keys named =
    let found = named n refl in
    let path = found.0 in
    let there : IsSome (finite.get (files_beside owned w.tree) path) = sym (among_their_keys (files_beside owned w.tree) path) ∙ ap (among path) keys ∙ found.1 in (
      holding w owned,
      record { lists = lists; tree = refl },
      (path, record { content = found.2.content; found = (left_is owned w.tree path there).1 ∙ found.2.found; bytes = found.2.bytes }),
    )

-- why a project has no rules
pub refusal_unread : (w : World) (paths : List Names) (unread : Unread) → Lists w.store paths → IsRefusal (holding w paths) unread → IsUnread w unread
refusal_unread w paths (NoRules fault) lists refused = (holding w paths, record { lists = lists; tree = refl }, refused)
refusal_unread w paths (Unlucky Fault) lists refused = tt
refusal_unread w paths (Unlucky (TooLarge n)) lists refused = absurd (cc refused)
refusal_unread w paths (Unlucky Memory) lists refused = tt

pub refusal_counts : (before now : ℕ) (unread : Unread) → now ≡ before → IsOfRules unread → HasCountedCause before now (Some (stop_of unread))
refusal_counts before now (NoRules fault) same told = (same, told)
refusal_counts before now (Unlucky Fault) same told = absurd (cc told)
refusal_counts before now (Unlucky (TooLarge n)) same told = absurd (cc told)
refusal_counts before now (Unlucky Memory) same told = same
