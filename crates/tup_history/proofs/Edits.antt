-- What an edit, and a crash, make of what a crash may leave of a site in memory.
use Rattle.std.proofs.Common.{◌≡◌, ◌≢◌, ⊎_elim, inl, inr, Bool, false, true, not, ◌&&◌, List, [], ◌∷◌, ◌++◌, Option, None, Some, filter, length, refl, sym, ap, subst, ◌∙◌, arith}
use Rattle.std.proofs.lemmas.Bool.{cases_Bool, or_parts, both_ways}
use Rattle.std.specs.FinMap as finite
use Rattle.tup_path.specs.Name.{Names, Content}
use Rattle.tup_path.specs.Order.{same_path}
use Rattle.tup_path.specs.Tree.{Tree}
use Rattle.tup_path.proofs.Same.{same_path-decides, get_inserted, get_inserted_elsewhere, get_removed_elsewhere, same_tree}
use Rattle.tup_site.specs.Crash.{Follows, FileStep}
use Rattle.tup_site.specs.Edit.{edited}
use Rattle.tup_site.specs.Choice.{chosen_world}
use Rattle.tup_site.specs.History.{at_first, after, after_all, LeftSince}
use Rattle.tup_site.specs.Laws.{image_now, left_now}
use Rattle.tup_site.specs.Memory.{tree_in, first_of, changes_of, state_of, moment_of, left_since}
use Rattle.tup_site.specs.Sound.{IsSound}
use Rattle.tup_site.specs.State.{State, IsImage, is_among, is_in_line, with_edit, with_put, without_file}
use Rattle.tup_site.specs.World.{World, StoreStays}
use Rattle.tup_site.specs.declared.change.Change.{Change}
use Rattle.tup_site.specs.declared.change.Change.TheVariants.{Edited, Crashed}
use Rattle.tup_site.specs.declared.choice.Choice.{Choice}
use Rattle.tup_site.specs.declared.memory.MemSite.{MemSite}
use Rattle.tup_site.proofs.Among.{same_itself, in_line_itself}
use Rattle.tup_site.proofs.Crashing.{among_filtered}
use Rattle.tup_site.proofs.Going.{after_all-append}
use Rattle.tup_site.proofs.Images.{put_step, removed_step, settled_pins, synced_pins}
use Rattle.tup_site.proofs.Sound.{gone}

-- an edit of a file in a world
pub record EditStep (path : Names) (content : Option Content) (v w : World) : Type 0 where
  pub tree : w.tree ≡ edited v.tree path content
  pub store : StoreStays v w

-- ---- the paths that an edit leaves loose
and_false : (a b : Bool) → b ≡ false → (a && b) ≡ false
and_false true b is = is
and_false false b is = refl

and_first : (a b : Bool) → a ≡ false → (a && b) ≡ false
and_first true b is = absurd (both_ways true is refl)
and_first false b is = refl

not_now : (test : Names → Bool) (loose : List Names) (path : Names) → test path ≡ false → is_among (filter test loose) path ≡ false
not_now test loose path out = among_filtered test loose path ∙ and_false (is_among loose path) (test path) out

not_before : (test : Names → Bool) (loose : List Names) (path q : Names) → is_among (path ∷ loose) q ≡ false → is_among (filter test loose) q ≡ false
not_before test loose path q none = among_filtered test loose q ∙ and_first (is_among loose q) (test q) (or_parts _ _ none).1

-- ---- a tree in which a file stands as it was edited
same_edited : (path : Names) (content : Option Content) (t u v : Tree) → finite.get t path ≡ finite.get (edited u path content) path → ((q : Names) → q ≢ path → finite.get t q ≡ finite.get v q) → t ≡ edited v path content
same_edited path content t u v here elsewhere = same_tree t (edited v path content) (λ q. elim (cases_Bool (same_path q path)) [
  | inl so ↦ let e = (same_path-decides q path).0 so in ap (finite.get t) e ∙ here ∙ there content u v ∙ ap (finite.get (edited v path content)) (sym e)
  | inr nay ↦ let apart : q ≢ path = λ e. both_ways _ nay ((same_path-decides q path).1 e) in elsewhere q apart ∙ sym (beside content v q apart)
])
  where
    there : (content : Option Content) (u v : Tree) → finite.get (edited u path content) path ≡ finite.get (edited v path content) path
    there None u v = gone u path ∙ sym (gone v path)
    there (Some content) u v = get_inserted u path content ∙ sym (get_inserted v path content)

    beside : (content : Option Content) (v : Tree) (q : Names) → q ≢ path → finite.get (edited v path content) q ≡ finite.get v q
    beside None v q apart = get_removed_elsewhere v path q apart
    beside (Some content) v q apart = get_inserted_elsewhere v path q content apart

-- ---- an edit
module _ (s : State) (path : Names) (w : World) (is : IsSound s) where
  away : IsImage (with_edit s path None) w → IsImage (without_file s path) w
  away image = record {
    tree = image.tree;
    joins = image.joins;
    settled = λ q none. image.settled q (not_before (λ other. not (same_path other path)) s.loose path q none);
    no_shorter = image.no_shorter;
    no_longer = image.no_longer;
    synced = image.synced;
  }

  put : (content : Content) → IsImage (with_edit s path (Some content)) w → IsImage (with_put s path content) w
  put content image = record {
    tree = image.tree;
    joins = image.joins;
    settled = λ q none. image.settled q (not_before (λ other. not (is_in_line other path)) s.loose path q none);
    no_shorter = image.no_shorter;
    no_longer = image.no_longer;
    synced = image.synced;
  }

  -- a world that a crash may leave after it comes by it from one that a crash might have left before
  pub edited_from : (content : Option Content) → IsImage (with_edit s path content) w → Follows (EditStep path content) (IsImage s) w
  edited_from None image =
      let here : finite.get w.tree path ≡ finite.get (edited s.world.tree path None) path = image.settled path (not_now (λ other. not (same_path other path)) s.loose path (ap not (same_itself path))) in
      ⊎_elim (λ (was : IsImage s w). (w, was, record { tree = same_edited path None w.tree s.world.tree w.tree here (λ q apart. refl); store = refl }))
      (λ (from : Follows (FileStep path s.known) (IsImage s) w). (from.0, from.1, record { tree = same_edited path None w.tree s.world.tree from.0.tree here from.2.others; store = from.2.store }))
      (removed_step s path w is (away image))
  edited_from (Some content) image =
      let here : finite.get w.tree path ≡ finite.get (edited s.world.tree path (Some content)) path = image.settled path (not_now (λ other. not (is_in_line other path)) s.loose path (ap not (in_line_itself path path refl))) in
      ⊎_elim (λ (was : IsImage s w). (w, was, record { tree = same_edited path (Some content) w.tree s.world.tree w.tree here (λ q apart. refl); store = refl }))
      (λ (from : Follows (FileStep path (content ∷ s.known)) (IsImage s) w). (from.0, from.1, record { tree = same_edited path (Some content) w.tree s.world.tree from.0.tree here from.2.others; store = from.2.store }))
      (put_step s path content w is (put content image))

-- ---- a site in memory
module _ (old new : MemSite) (same : first_of new ≡ first_of old) where
  -- after one change more
  pub state_then : (change : Change) → changes_of new ≡ changes_of old ++ change ∷ [] → state_of new ≡ after (state_of old) change
  state_then change noted = (λ i. after_all (at_first (same i)) (noted i)) ∙ after_all-append (at_first (first_of old)) (changes_of old) (change ∷ [])

  image_then : (change : Change) → changes_of new ≡ changes_of old ++ change ∷ [] → (w : World) → left_since new (moment_of new) w → IsImage (after (state_of old) change) w
  image_then change noted w left = subst (λ (s : State). IsImage s w) (state_then change noted) (image_now (at_first (first_of new)) (changes_of new) w left)

  -- nothing happened
  pub left_still : changes_of new ≡ changes_of old → (w : World) → left_since new (moment_of new) w → left_since old (moment_of old) w
  left_still none w left = subst (λ (l : List Change). LeftSince (at_first (first_of old)) l (length l) w) none (subst (λ (f : List (Names × Content)). LeftSince (at_first f) (changes_of new) (moment_of new) w) same left)

  -- an edit
  pub edit_left : (path : Names) (content : Option Content) → changes_of new ≡ changes_of old ++ Edited path content ∷ [] → (w : World) → left_since new (moment_of new) w → Follows (EditStep path content) (left_since old (moment_of old)) w
  edit_left path content noted w left =
      let from = edited_from (state_of old) path w old.is_now.sound content (image_then (Edited path content) noted w left) in
      (from.0, left_now (at_first (first_of old)) (changes_of old) (moment_of old) from.0 (omega arith) from.1, from.2)

  -- a crash: it leaves one world alone
  pub crash_left : (choice : Choice) → changes_of new ≡ changes_of old ++ Crashed choice ∷ [] → (w : World) → left_since new (moment_of new) w → w ≡ chosen_world (tree_in old) choice
  crash_left choice noted w left =
      let image = image_then (Crashed choice) noted w left in
      let s = after (state_of old) (Crashed choice) in
      let tree : w.tree ≡ s.world.tree = settled_pins s w image in
      let store : w.store ≡ s.world.store = synced_pins s w image in
      (λ i. record { tree = tree i; store = store i }) ∙ ap (λ (t : Tree). chosen_world t choice) (sym old.is_now.tree)
