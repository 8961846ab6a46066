-- What a crash may leave, as it is worked out: which paths are loose and which places were written after a list of changes, and
-- when a choice is what a crash now may leave.
use Rattle.std.proofs.Common.{◌≡◌, ◌≢◌, ◌⊎◌, inl, inr, ⊎_elim, ℕ, ◌+◌, ◌<◌, ◌≤◌, ◌-◌, ◌^◌, min, Bool, true, false, not, ◌&&◌, ◌||◌, List, [], ◌∷◌, ◌++◌, Option, None, Some, IsTrue, ◌↔◌, length, take, drop, get_or, filter, is_some, bytes_eq, refl, sym, ap, subst, ◌∙◌, arith}
use Rattle.std.proofs.lemmas.Bool.{cases_Bool, and_parts, and_from, both_ways, or_cases, or_parts}
use Rattle.std.proofs.lemmas.List.{take_more, drop_more, take-append-drop}
use Rattle.std.proofs.lemmas.List.Folds.{list_any-append}
use Rattle.std.proofs.lemmas.List.Elements.{same_from_all_zip}
use Rattle.std.specs.BTreeMap.{BTreeMap, IsClone}
use Rattle.std.specs.FinMap as finite
use Rattle.tup_path.specs.Name.{Names, Content}
use Rattle.tup_path.specs.Order.{same_path}
use Rattle.tup_path.specs.Tree.{Tree, IsTree, IsBelow}
use Rattle.tup_path.proofs.Same.{same_path-decides, same_bytes-decides, get_inserted_elsewhere, get_removed_elsewhere}
use Rattle.tup_stamp.specs.declared.Stamp.{Stamp}
use Rattle.tup_site.specs.Held.{under, IsHeld}
use Rattle.tup_site.specs.Edit.{edited}
use Rattle.tup_site.specs.Known.{knows, IsKnown, KnowsTree, IsHere, Joins}
use Rattle.tup_site.specs.State.{State, IsImage, is_among, is_written, is_in_line, with_edit}
use Rattle.tup_site.specs.History.{after, after_all}
use Rattle.tup_site.specs.Choice.{Changed, names, chosen, with_content, known_after, chosen_world}
use Rattle.tup_site.specs.Memory.{tree_in, store_in, state_of, known_in}
use Rattle.tup_site.specs.declared.change.Change.{Change}
use Rattle.tup_site.specs.declared.choice.Choice.{Choice}
use Rattle.tup_site.specs.declared.memory.MemSite.{MemSite}
use Rattle.tup_site.proofs.Among.{kept_among, among_kept, in_line_below, in_line_itself, from_in_line}
use Rattle.tup_site.proofs.Going.{after_all-append}
use Rattle.tup_site.proofs.Sound.{keeps_after, knows_after}

-- ---- one change more of a list

pub after_next : (first : State) (changes : List Change) (i : ℕ) (change : Change) → i < length changes → change ≡ get_or changes i change → after_all first (take (i + 1) changes) ≡ after (after_all first (take i changes)) change
after_next first changes i change below is =
    ap (after_all first) (take_more changes i change below ∙ ap (λ (c : Change). take i changes ++ c ∷ []) (sym is)) ∙ after_all-append first (take i changes) (change ∷ [])

-- ---- loose paths

-- what is among those of some that pass a test
pub among_filtered : (test : Names → Bool) (paths : List Names) (path : Names) → is_among (filter test paths) path ≡ (is_among paths path && test path)
among_filtered test paths path = elim (cases_Bool (is_among (filter test paths) path)) [
  | inl so ↦ let both = kept_among test paths path so in so ∙ sym (and_from _ _ both.0 both.1)
  | inr nay ↦ elim (cases_Bool (is_among paths path && test path)) [
    | inl so ↦ let both = and_parts _ _ so in absurd (both_ways _ nay (among_kept test paths path both.0 both.1))
    | inr nor ↦ nay ∙ sym nor
  ]
]

-- after an edit that takes a file away
pub loose_without : (state : State) (path edited : Names) (content : Option Content) (was answer : Bool) → content ≡ None → answer ≡ (was && not (same_path path edited)) → was ≡ is_among state.loose path → answer ≡ is_among (with_edit state edited content).loose path
loose_without state path edited content was answer is e so =
    e ∙ ap (λ b. b && not (same_path path edited)) so ∙ sym (among_filtered (λ other. not (same_path other edited)) state.loose path)
    ∙ ap (λ (c : Option Content). is_among (with_edit state edited c).loose path) (sym is)

-- after an edit that sets one
pub loose_beside : (state : State) (path edited : Names) (content : Option Content) (newest : Content) (was answer : Bool) → content ≡ Some newest → answer ≡ (was && not (is_in_line path edited)) → was ≡ is_among state.loose path → answer ≡ is_among (with_edit state edited content).loose path
loose_beside state path edited content newest was answer is e so =
    e ∙ ap (λ b. b && not (is_in_line path edited)) so ∙ sym (among_filtered (λ other. not (is_in_line other edited)) state.loose path)
    ∙ ap (λ (c : Option Content). is_among (with_edit state edited c).loose path) (sym is)

-- the test by which two paths are in line
pub line_test : (a b : Names) (result : Bool) → IsTrue result ↔ ((a ≡ b) ⊎ (IsBelow b a ⊎ IsBelow a b)) → result ≡ is_in_line a b
line_test a b result tells = elim (cases_Bool (is_in_line a b)) [
  | inl so ↦ tells.1 (⊎_elim (λ e. inl e) (λ line. inr (⊎_elim (λ below. inr below) (λ below. inl below) line)) (from_in_line a b so)) ∙ sym so
  | inr nay ↦ elim (cases_Bool result) [
    | inl yes_so ↦ absurd (both_ways _ nay (⊎_elim (λ e. in_line_itself a b e) (λ line. in_line_below a b (⊎_elim (λ below. inr below) (λ below. inl below) line)) (tells.0 yes_so)))
    | inr no_so ↦ no_so ∙ sym nay
  ]
]

-- ---- what two maps have at a path

-- a copy of a map of files has the same entries
pub same_copy : (m n : BTreeMap Names Content) → IsClone (λ path copy. copy ≡ path) (λ bytes copy. copy ≡ bytes) m n → n.entries ≡ m.entries
same_copy m n copies = same_from_all_zip _ m.entries n.entries copies (λ x y same. λ i. (same.0 i, same.1 i))

pub same_found : (a b : Option Content) (left right : Content) (answer : Bool) → Some left ≡ a → Some right ≡ b → answer ≡ bytes_eq left right → IsTrue answer ↔ (a ≡ b)
same_found a b left right answer is_a is_b e = (
  λ so. sym is_a ∙ ap Some ((same_bytes-decides left right).0 (sym e ∙ so)) ∙ is_b,
  λ same. let both : Some left ≡ Some right = is_a ∙ same ∙ sym is_b in e ∙ (same_bytes-decides left right).1 (inside left right both),
)
  where
    inside : (x y : Content) → Some x ≡ Some y → x ≡ y
    inside x y both = cc both

pub none_found : (a b : Option Content) → None ≡ a → None ≡ b → IsTrue true ↔ (a ≡ b)
none_found a b is_a is_b = (λ so. sym is_a ∙ is_b, λ same. refl)

pub left_found : (a b : Option Content) (left : Content) → Some left ≡ a → None ≡ b → IsTrue false ↔ (a ≡ b)
left_found a b left is_a is_b = (λ so. absurd (both_ways false refl so), λ same. ap is_some (is_b ∙ sym same ∙ sym is_a))

pub right_found : (a b : Option Content) (right : Content) → None ≡ a → Some right ≡ b → IsTrue false ↔ (a ≡ b)
right_found a b right is_a is_b = (λ so. absurd (both_ways false refl so), λ same. ap is_some (is_a ∙ same ∙ sym is_b))

-- ---- a choice

-- the paths so far with one more
pub named_next : (files : Changed) (i : ℕ) (file : Names × Option Content) → i < length files → file ≡ get_or files i file → (path : Names) → names (take (i + 1) files) path ≡ true → (names (take i files) path ≡ true) ⊎ (path ≡ file.0)
named_next files i file below is path named =
    let more : take (i + 1) files ≡ take i files ++ file ∷ [] = take_more files i file below ∙ ap (λ (f : Names × Option Content). take i files ++ f ∷ []) (sym is) in
    let both : (names (take i files) path || names (file ∷ []) path) ≡ true =
    sym (list_any-append (λ (f : Names × Option Content). same_path path f.0) (take i files) (file ∷ [])) ∙ ap (λ (l : Changed). names l path) (sym more) ∙ named in
    ⊎_elim (λ old. inl old) (λ new. inr (newest new)) (or_cases _ _ both)
  where
    newest : names (file ∷ []) path ≡ true → path ≡ file.0
    newest new = ⊎_elim (λ so. (same_path-decides path file.0).0 so) (λ nay. absurd (both_ways false refl nay)) (or_cases (same_path path file.0) false new)

-- a path that isn't named holds what it held
pub not_named : (tree : Tree) (files : Changed) (path : Names) → names files path ≡ false → finite.get (chosen tree files) path ≡ finite.get tree path
not_named tree [] path none = refl
not_named tree (file ∷ files) path none =
    let parts = or_parts _ _ none in
    let apart : path ≢ file.0 = λ e. both_ways _ parts.0 ((same_path-decides path file.0).1 e) in
    not_named (edited tree file.0 file.1) files path parts.1 ∙ elsewhere file.1 apart
  where
    elsewhere : (content : Option Content) → path ≢ file.0 → finite.get (edited tree file.0 content) path ≡ finite.get tree path
    elsewhere None apart = get_removed_elsewhere tree file.0 path apart
    elsewhere (Some content) apart = get_inserted_elsewhere tree file.0 path content apart

-- the contents of what a choice leaves join the known ones
pub joins_chosen : (contents : List Content) (tree : Tree) (files : Changed) → KnowsTree contents tree → IsKnown (known_after contents files) → Joins contents (chosen tree files)
joins_chosen contents tree files is known a b ha hb e = known a b (up a ha) (up b hb) e
  where
    up : (c : Content) → IsHere contents (chosen tree files) c → IsTrue (knows (known_after contents files) c)
    up c (inl k) = keeps_after contents files c k
    up c (inr file) = knows_after contents tree files is file.0 c file.1

-- what is kept at each path that is named is kept at all
pub kept_all : (tree files_tree : Tree) (files : Changed) (loose : List Names) → files_tree ≡ chosen tree files → ((path : Names) → names files path ≡ true → is_among loose path ≡ false → finite.get files_tree path ≡ finite.get tree path) → (path : Names) → is_among loose path ≡ false → finite.get files_tree path ≡ finite.get tree path
kept_all tree files_tree files loose is named path firm = elim (cases_Bool (names files path)) [
  | inl so ↦ named path so firm
  | inr nay ↦ ap (λ (t : Tree). finite.get t path) is ∙ not_named tree files path nay
]

-- ---- the contents of a choice, one by one

-- known contents under their stamps are such that no two different ones have one stamp
pub held_known : (entries : List (Stamp × Content)) (contents : List Content) → IsHeld entries contents → IsKnown contents
held_known entries contents is a b ka kb e = inside a b (sym (is.held a ka) ∙ ap (under entries) e ∙ is.held b kb)
  where
    inside : (x y : Content) → Some x ≡ Some y → x ≡ y
    inside x y both = cc both

known_fewer : (small big : List Content) → ((c : Content) → knows small c ≡ true → knows big c ≡ true) → IsKnown big → IsKnown small
known_fewer small big up known a b ka kb e = known a b (up a ka) (up b kb) e

known_after-append : (contents : List Content) (xs ys : Changed) → known_after contents (xs ++ ys) ≡ known_after (known_after contents xs) ys
known_after-append contents [] ys = refl
known_after-append contents (x ∷ xs) ys = known_after-append (with_content contents x.1) xs ys

module _ (contents : List Content) (list : Changed) (i : ℕ) (file : Names × Option Content) (below : i < length list) (is : file ≡ get_or list i file) where
  pub known_next : known_after contents (take (i + 1) list) ≡ with_content (known_after contents (take i list)) file.1
  known_next = ap (known_after contents) (take_more list i file below ∙ ap (λ (f : Names × Option Content). take i list ++ f ∷ []) (sym is)) ∙ known_after-append contents (take i list) (file ∷ [])

  split : list ≡ take i list ++ file ∷ drop (i + 1) list
  split = sym (ap (λ (f : Names × Option Content). take i list ++ f ∷ drop (i + 1) list) is ∙ ap (λ (l : Changed). take i list ++ l) (sym (drop_more list i file below)) ∙ take-append-drop i list)

  -- what is known at the end is known with each content on the way
  pub known_front : IsKnown (known_after contents list) → IsKnown (with_content (known_after contents (take i list)) file.1)
  known_front known =
      known_fewer (with_content (known_after contents (take i list)) file.1) (known_after contents list)
      (λ c k. ap (λ cs. knows cs c) (ap (known_after contents) split ∙ known_after-append contents (take i list) (file ∷ drop (i + 1) list)) ∙ keeps_after (with_content (known_after contents (take i list)) file.1) (drop (i + 1) list) c k)
      known

-- ---- a choice that a crash may leave

module _ (site : MemSite) (choice : Choice) where
  -- the store differs only where it was written
  abbrev pub KeepsSynced : ℕ → Type 0
  KeepsSynced floor = (place d : ℕ) → place < floor → is_written (state_of site).written place ≡ false → get_or choice.db place d ≡ get_or (store_in site) place d

  -- the files differ only where paths are loose
  abbrev pub KeepsSettled : Tree → Type 0
  KeepsSettled files = (path : Names) → is_among (state_of site).loose path ≡ false → finite.get files path ≡ finite.get (tree_in site) path

  pub image_from : (files : Tree) → files ≡ chosen (tree_in site) choice.tree → IsTree files → Joins (known_in site) files → (state_of site).floor ≤ length choice.db → length choice.db ≤ (state_of site).height → KeepsSynced (state_of site).floor → KeepsSettled files → IsImage (state_of site) (chosen_world (tree_in site) choice)
  image_from files is tree joins low high synced settled = record {
    tree = subst IsTree is tree;
    joins = subst (λ (t : Tree). Joins (known_in site) t) is joins;
    settled = λ path none. ap (λ (t : Tree). finite.get t path) (sym is) ∙ settled path none ∙ ap (λ (t : Tree). finite.get t path) site.is_now.tree;
    no_shorter = low;
    no_longer = high;
    synced = λ place d below none. synced place d below none ∙ ap (λ (l : List ℕ). get_or l place d) site.is_now.store;
  }

  pub synced_of : IsImage (state_of site) (chosen_world (tree_in site) choice) → KeepsSynced (state_of site).floor
  synced_of image place d below none = image.synced place d below none ∙ sym (ap (λ (l : List ℕ). get_or l place d) site.is_now.store)

  pub settled_of : (files : Tree) → files ≡ chosen (tree_in site) choice.tree → IsImage (state_of site) (chosen_world (tree_in site) choice) → KeepsSettled files
  settled_of files is image path none = ap (λ (t : Tree). finite.get t path) is ∙ image.settled path none ∙ sym (ap (λ (t : Tree). finite.get t path) site.is_now.tree)

  -- the floor as it was worked out is that of the state
  pub floor_is : (floor : ℕ) → floor ≡ min (state_of site).floor (2 ^ 64 - 1) → length (store_in site) < 2 ^ 63 → floor ≡ (state_of site).floor
  floor_is floor is small =
      let low = site.is_now.sound.no_shorter in
      let same = ap length site.is_now.store in
      omega (arith, is, small, low, same)

  pub height_is : (height : ℕ) → height ≡ min (state_of site).height (2 ^ 64 - 1) → (n : ℕ) → n < 2 ^ 64 → (n ≤ height) ↔ (n ≤ (state_of site).height)
  height_is height is n small = (λ le. omega (arith, is, le), λ le. omega (arith, is, le, small))
