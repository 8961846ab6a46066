-- A sound state stays sound by each change that may come.
use Rattle.std.proofs.Common.{◌≡◌, ◌≢◌, ◌⊎◌, inl, inr, ℕ, ◌+◌, ◌≤◌, max, Bool, true, false, cond, not, List, [], ◌∷◌, ◌++◌, Option, None, Some, IsSome, is_some, length, take, drop, refl, sym, ap, subst, ◌∙◌, arith, length-append, length-take, length-drop}
use Rattle.std.proofs.lemmas.Bool.{cases_Bool, not-true, not_from_false, both_ways}
use Rattle.std.specs.FinMap as finite
use Rattle.std.specs.Ordering.{eq_by_cmp}
use Rattle.tup_path.specs.Name.{Names, Content, IsPath}
use Rattle.tup_path.specs.Order.{same_path, by_names, by_names-total}
use Rattle.tup_path.specs.Tree.{Tree, IsTree, IsBelow, tree_of_files}
use Rattle.tup_path.proofs.Same.{same_path-decides, by_names-decides, get_inserted, get_inserted_elsewhere, get_removed_elsewhere}
use Rattle.tup_stamp.specs.Stamp.{stamp}
use Rattle.tup_site.specs.Cause.{IsPlace}
use Rattle.tup_site.specs.Choice.{Changed, chosen, with_content, known_after, chosen_world}
use Rattle.tup_site.specs.Edit.{edited}
use Rattle.tup_site.specs.declared.choice.Choice.{Choice}
use Rattle.tup_site.specs.Known.{knows, IsKnown, MayJoin, KnowsTree}
use Rattle.tup_site.specs.State.{State, is_among, is_in_line, overwritten, with_put, without_file, with_edit, with_write, with_cut, settled, synced, at_rest}
use Rattle.tup_site.specs.History.{after, at_first, contents_of}
use Rattle.tup_site.specs.Sound.{IsSound}
use Rattle.tup_site.specs.declared.change.Change.{Change}
use Rattle.tup_site.specs.declared.change.Change.TheVariants.{Put, Removed, Settled, Written, Cut, Synced, Edited, Crashed, Failed}
use Rattle.tup_site.proofs.Among.{knows_newest, knows_more, known_or_newest, among_first, among_more, among_cases, kept_among, among_kept, in_line_below, from_in_line}
use Rattle.tup_site.proofs.Trees.{some_inserted, some_removed, put_tree, removed_tree}

-- a file may be set here, with this content
pub record MaySet (state : State) (path : Names) (content : Content) : Type 0 where
  pub visible : IsPath path
  pub place : IsPlace state.world.tree path
  pub joins : MayJoin state.known content

-- what may come
abbrev pub Fits : State → Change → Type 0
Fits state (Put path content) = MaySet state path content
Fits state (Removed path) = IsSome (finite.get state.world.tree path)
Fits state (Edited path None) = Unit {0}
Fits state (Edited path (Some content)) = MaySet state path content
Fits state (Written at bytes) = at ≤ length state.world.store
Fits state Settled = Unit {0}
Fits state (Cut len) = Unit {0}
Fits state Synced = Unit {0}
Fits state (Crashed choice) = IsTree (chosen state.world.tree choice.tree) × IsKnown (known_after state.known choice.tree)
Fits state Failed = Unit {0}

-- ---- known contents

pub known_more : (contents : List Content) (content : Content) → IsKnown contents → MayJoin contents content → IsKnown (content ∷ contents)
known_more contents content known may a b ka kb e = elim (known_or_newest content contents a ka) [
  | inl is_a ↦ elim (known_or_newest content contents b kb) [
    | inl is_b ↦ is_a ∙ sym is_b
    | inr old_b ↦ is_a ∙ sym (may b old_b (sym e ∙ ap stamp is_a))
  ]
  | inr old_a ↦ elim (known_or_newest content contents b kb) [
    | inl is_b ↦ may a old_a (e ∙ ap stamp is_b) ∙ sym is_b
    | inr old_b ↦ known a b old_a old_b e
  ]
]

get_set : (tree : Tree) (path : Names) (content : Content) (other : Names) → (other ≡ path) × (finite.get (finite.insert tree path content) other ≡ Some content) ⊎ (other ≢ path) × (finite.get (finite.insert tree path content) other ≡ finite.get tree other)
get_set tree path content other = elim (cases_Bool (same_path other path)) [
  | inl so ↦ let e = (same_path-decides other path).0 so in inl (e, ap (finite.get (finite.insert tree path content)) e ∙ get_inserted tree path content)
  | inr nay ↦ let apart : other ≢ path = λ e. both_ways _ nay ((same_path-decides other path).1 e) in inr (apart, get_inserted_elsewhere tree path other content apart)
]

pub gone : (tree : Tree) (path : Names) → finite.get (finite.remove tree path) path ≡ None
gone tree path = finite.get-remove by_names-total tree path path ∙ ap (λ b. cond b None (finite.get tree path)) ((by_names-decides path path).1 refl)

get_unset : (tree : Tree) (path other : Names) → IsSome (finite.get (finite.remove tree path) other) → (other ≢ path) × (finite.get (finite.remove tree path) other ≡ finite.get tree other)
get_unset tree path other there = elim (cases_Bool (same_path other path)) [
  | inl so ↦
      let none : finite.get (finite.remove tree path) other ≡ None = ap (finite.get (finite.remove tree path)) ((same_path-decides other path).0 so) ∙ gone tree path in
      let nay : false ≡ true = sym (ap is_some none) ∙ there in absurd (both_ways true (sym nay) refl)
  | inr nay ↦ let apart : other ≢ path = λ e. both_ways _ nay ((same_path-decides other path).1 e) in (apart, get_removed_elsewhere tree path other apart)
]

pub knows_set : (contents : List Content) (tree : Tree) (path : Names) (content : Content) → KnowsTree contents tree → KnowsTree (content ∷ contents) (finite.insert tree path content)
knows_set contents tree path content is other found has = elim (get_set tree path content other) [
  | inl here ↦
      let e : content ≡ found = cc (here.1, has) in
      subst (λ (c : Content). knows (content ∷ contents) c ≡ true) e (knows_newest content contents)
  | inr there ↦ knows_more content contents found (is other found (sym there.1 ∙ has))
]

pub knows_unset : (contents : List Content) (tree : Tree) (path : Names) → KnowsTree contents tree → KnowsTree contents (finite.remove tree path)
knows_unset contents tree path is other found has = is other found (sym (get_unset tree path other (ap is_some has)).1 ∙ has)

-- ---- what a choice sets

with_keeps : (contents : List Content) (more : Option Content) (content : Content) → knows contents content ≡ true → knows (with_content contents more) content ≡ true
with_keeps contents None content k = k
with_keeps contents (Some newest) content k = knows_more newest contents content k

pub keeps_after : (contents : List Content) (files : Changed) (content : Content) → knows contents content ≡ true → knows (known_after contents files) content ≡ true
keeps_after contents [] content k = k
keeps_after contents (file ∷ files) content k = keeps_after (with_content contents file.1) files content (with_keeps contents file.1 content k)

knows_edited : (contents : List Content) (tree : Tree) (path : Names) (more : Option Content) → KnowsTree contents tree → KnowsTree (with_content contents more) (edited tree path more)
knows_edited contents tree path None is = knows_unset contents tree path is
knows_edited contents tree path (Some content) is = knows_set contents tree path content is

pub knows_after : (contents : List Content) (tree : Tree) (files : Changed) → KnowsTree contents tree → KnowsTree (known_after contents files) (chosen tree files)
knows_after contents tree [] is = is
knows_after contents tree (file ∷ files) is = knows_after (with_content contents file.1) (edited tree file.0 file.1) files (knows_edited contents tree file.0 file.1 is)

-- ---- paths in line

beside : (tree : Tree) (path : Names) → IsPlace tree path → (file : Names) → IsSome (finite.get tree file) → IsBelow path file ⊎ IsBelow file path → ⊥
beside tree path place file there (inl below) = place.none_below file there below
beside tree path place file there (inr above) = place.none_above file there above

pub both_there : (tree : Tree) → IsTree tree → (path file : Names) → IsSome (finite.get tree path) → IsSome (finite.get tree file) → IsBelow path file ⊎ IsBelow file path → ⊥
both_there tree is path file p f (inl below) = is.no_file_above path file p f below
both_there tree is path file p f (inr above) = is.no_file_above file path f p above

-- ---- each change

put_sound : (s : State) (path : Names) (content : Content) → IsSound s → MaySet s path content → IsSound (with_put s path content)
put_sound s path content is may = record {
  tree = put_tree s.world.tree path content is.tree may.visible may.place;
  in_line = λ q file among there line. elim (some_inserted s.world.tree path content file there) [
    | inl e ↦ subst (λ (p : Names). is_among (path ∷ s.loose) p ≡ true) (sym e) (among_first path s.loose)
    | inr old ↦ elim (among_cases path s.loose q among) [
      | inl e ↦ absurd (beside s.world.tree path may.place file old (subst (λ (p : Names). IsBelow p file ⊎ IsBelow file p) e line))
      | inr old_q ↦ among_more path s.loose file (is.in_line q file old_q old line)
    ]
  ];
  known = known_more s.known content is.known may.joins;
  knows = knows_set s.known s.world.tree path content is.knows;
  no_shorter = is.no_shorter;
  no_longer = is.no_longer;
}

unset_sound : (s : State) (path : Names) → IsSound s → IsSome (finite.get s.world.tree path) → IsSound (without_file s path)
unset_sound s path is was = record {
  tree = removed_tree s.world.tree path is.tree;
  in_line = λ q file among there line.
      let old : IsSome (finite.get s.world.tree file) = some_removed s.world.tree path file there in
      elim (among_cases path s.loose q among) [
        | inl e ↦ absurd (both_there s.world.tree is.tree path file was old (subst (λ (p : Names). IsBelow p file ⊎ IsBelow file p) e line))
        | inr old_q ↦ among_more path s.loose file (is.in_line q file old_q old line)
      ];
  known = is.known;
  knows = knows_unset s.known s.world.tree path is.knows;
  no_shorter = is.no_shorter;
  no_longer = is.no_longer;
}

edited_away_sound : (s : State) (path : Names) → IsSound s → IsSound (with_edit s path None)
edited_away_sound s path is = record {
  tree = removed_tree s.world.tree path is.tree;
  in_line = λ q file among there line.
      let test : Names → Bool = λ other. not (same_path other path) in
      let left = get_unset s.world.tree path file there in
      let apart : same_path file path ≡ false = not_same file path left.0 in
      among_kept test s.loose file (is.in_line q file (kept_among test s.loose q among).0 (subst IsSome left.1 there) line) (not_from_false _ apart);
  known = is.known;
  knows = knows_unset s.known s.world.tree path is.knows;
  no_shorter = is.no_shorter;
  no_longer = is.no_longer;
}
  where
    not_same : (a b : Names) → a ≢ b → same_path a b ≡ false
    not_same a b apart = elim (cases_Bool (same_path a b)) [ inl so ↦ absurd (apart ((same_path-decides a b).0 so)) | inr nay ↦ nay ]

edited_sound : (s : State) (path : Names) (content : Content) → IsSound s → MaySet s path content → IsSound (with_edit s path (Some content))
edited_sound s path content is may = record {
  tree = new_tree;
  in_line = λ q file among there line.
      let test : Names → Bool = λ other. not (is_in_line other path) in
      let kept = kept_among test s.loose q among in
      let q_apart : is_in_line q path ≡ false = not-true _ kept.1 in
      elim (some_inserted s.world.tree path content file there) [
        | inl e ↦ absurd (both_ways _ q_apart (in_line_below q path (subst (λ (p : Names). IsBelow q p ⊎ IsBelow p q) e line)))
        | inr old ↦ among_kept test s.loose file (is.in_line q file kept.0 old line) (not_from_false _ (apart file there q q_apart line))
      ];
  known = known_more s.known content is.known may.joins;
  knows = knows_set s.known s.world.tree path content is.knows;
  no_shorter = is.no_shorter;
  no_longer = is.no_longer;
}
  where
    new_tree : IsTree (finite.insert s.world.tree path content)
    new_tree = put_tree s.world.tree path content is.tree may.visible may.place

    here : IsSome (finite.get (finite.insert s.world.tree path content) path)
    here = ap is_some (get_inserted s.world.tree path content)

    apart : (file : Names) → IsSome (finite.get (finite.insert s.world.tree path content) file) → (q : Names) → is_in_line q path ≡ false → IsBelow q file ⊎ IsBelow file q → is_in_line file path ≡ false
    apart file there q q_apart line = elim (cases_Bool (is_in_line file path)) [
      | inl so ↦ elim (from_in_line file path so) [
        | inl e ↦ absurd (both_ways _ q_apart (in_line_below q path (subst (λ (p : Names). IsBelow q p ⊎ IsBelow p q) e line)))
        | inr lines ↦ absurd (both_there _ new_tree file path there here lines)
      ]
      | inr nay ↦ nay
    ]

pub length-overwritten : (store : List ℕ) (at : ℕ) (bytes : List ℕ) → at ≤ length store → length (overwritten store at bytes) ≡ max (length store) (at + length bytes)
length-overwritten store at bytes le =
    omega (arith, length-append (take at store) (bytes ++ drop (at + length bytes) store), length-append bytes (drop (at + length bytes) store), length-take at store, length-drop (at + length bytes) store)

written_sound : (s : State) (at : ℕ) (bytes : List ℕ) → IsSound s → at ≤ length s.world.store → IsSound (with_write s at bytes)
written_sound s at bytes is le = record {
  tree = is.tree;
  in_line = is.in_line;
  known = is.known;
  knows = is.knows;
  no_shorter = omega (arith, length-overwritten s.world.store at bytes le, is.no_shorter);
  no_longer = omega (arith, length-overwritten s.world.store at bytes le, is.no_longer);
}

cut_sound : (s : State) (len : ℕ) → IsSound s → IsSound (with_cut s len)
cut_sound s len is = record {
  tree = is.tree;
  in_line = is.in_line;
  known = is.known;
  knows = is.knows;
  no_shorter = omega (arith, length-take len s.world.store, is.no_shorter);
  no_longer = omega (arith, length-take len s.world.store, is.no_longer);
}

settled_sound : (s : State) → IsSound s → IsSound (settled s)
settled_sound s is = record {
  tree = is.tree;
  in_line = λ q file among there line. absurd (both_ways false refl among);
  known = is.known;
  knows = is.knows;
  no_shorter = is.no_shorter;
  no_longer = is.no_longer;
}

synced_sound : (s : State) → IsSound s → IsSound (synced s)
synced_sound s is = record {
  tree = is.tree;
  in_line = is.in_line;
  known = is.known;
  knows = is.knows;
  no_shorter = omega arith;
  no_longer = omega arith;
}

crashed_sound : (s : State) (choice : Choice) → IsSound s → IsTree (chosen s.world.tree choice.tree) → IsKnown (known_after s.known choice.tree) → IsSound (at_rest (known_after s.known choice.tree) (chosen_world s.world.tree choice))
crashed_sound s choice is tree known = record {
  tree = tree;
  in_line = λ q file among there line. absurd (both_ways false refl among);
  known = known;
  knows = knows_after s.known s.world.tree choice.tree is.knows;
  no_shorter = omega arith;
  no_longer = omega arith;
}

pub sound_after : (s : State) (change : Change) → IsSound s → Fits s change → IsSound (after s change)
sound_after s (Put path content) is fits = put_sound s path content is fits
sound_after s (Removed path) is fits = unset_sound s path is fits
sound_after s Settled is fits = settled_sound s is
sound_after s (Written at bytes) is fits = written_sound s at bytes is fits
sound_after s (Cut len) is fits = cut_sound s len is
sound_after s Synced is fits = synced_sound s is
sound_after s (Edited path None) is fits = edited_away_sound s path is
sound_after s (Edited path (Some content)) is fits = edited_sound s path content is fits
sound_after s (Crashed choice) is fits = crashed_sound s choice is fits.0 fits.1
sound_after s Failed is fits = is

-- ---- the first state

found_first : (b : Bool) (first content : Content) (contents : List Content) (other : Option Content) → (other ≡ Some content → knows contents content ≡ true) → cond b (Some first) other ≡ Some content → knows (first ∷ contents) content ≡ true
found_first true first content contents other rest e = let is : first ≡ content = cc e in subst (λ (c : Content). knows (first ∷ contents) c ≡ true) is (knows_newest first contents)
found_first false first content contents other rest e = knows_more first contents content (rest e)

knows_found : (files : List (Names × Content)) (path : Names) (content : Content) → finite.find by_names path files ≡ Some content → knows (contents_of files) content ≡ true
knows_found [] path content e = cc
knows_found (file ∷ files) path content e = found_first (eq_by_cmp by_names path file.0) file.1 content (contents_of files) (finite.find by_names path files) (knows_found files path content) e

pub first_sound : (files : List (Names × Content)) → IsTree (tree_of_files files) → IsKnown (contents_of files) → IsSound (at_first files)
first_sound files tree known = record {
  tree = tree;
  in_line = λ q file among there line. absurd (both_ways false refl among);
  known = known;
  knows = λ path content found. knows_found files path content (sym (finite.get-from_entries by_names-total files path) ∙ found);
  no_shorter = omega arith;
  no_longer = omega arith;
}
