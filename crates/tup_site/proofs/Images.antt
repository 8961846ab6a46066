-- What a crash may leave after a change, it may have left before, or it comes by one step from what it may have left.
use Rattle.std.proofs.Common.{◌≡◌, ◌≢◌, ◌⊎◌, inl, inr, ℕ, true, false, List, [], ◌∷◌, Option, None, Some, IsSome, is_some, length, get_or, refl, sym, ap, subst, ◌∙◌, arith}
use Rattle.std.proofs.lemmas.Bool.{cases_Bool, both_ways}
use Rattle.std.proofs.lemmas.List.{same_lists}
use Rattle.std.specs.FinMap as finite
use Rattle.tup_path.specs.Name.{Names, Content, IsPath}
use Rattle.tup_path.specs.Order.{same_path}
use Rattle.tup_path.specs.Tree.{Tree, IsTree, IsBelow}
use Rattle.tup_path.proofs.Same.{same_path-decides, get_inserted, get_inserted_elsewhere, get_removed_elsewhere, same_tree}
use Rattle.tup_site.specs.World.{World}
use Rattle.tup_site.specs.Cause.{IsPlace, SameBut}
use Rattle.tup_site.specs.Known.{Keeps, IsHere, Joins}
use Rattle.tup_site.specs.Crash.{Follows, FileStep}
use Rattle.tup_site.specs.State.{State, IsImage, is_among, with_put, without_file, settled, synced}
use Rattle.tup_site.specs.Sound.{IsSound}
use Rattle.tup_site.proofs.Among.{knows_more, among_apart, not_among}
use Rattle.tup_site.proofs.Trees.{some-from_all_keys, put_tree, removed_tree, not_below_itself}
use Rattle.tup_site.proofs.Sound.{both_there, gone}

-- ---- a file that is put or removed

fewer : (old new : List Content) (tree : Tree) → Keeps old new → Joins new tree → Joins old tree
fewer old new tree keeps joins a b ha hb e = joins a b (up a ha) (up b hb) e
  where
    up : (c : Content) → IsHere old tree c → IsHere new tree c
    up c (inl k) = inl (keeps c k)
    up c (inr file) = inr file

-- the state with another tree, which differs at one path
abbrev changed : State → Tree → List Content → Names → State
changed s tree contents path = record s { world = record (s.world) { tree = tree }; known = contents; loose = path ∷ s.loose }

module _ (s : State) (tree : Tree) (contents : List Content) (path : Names) (w : World) (is : IsSound s) (others : SameBut path s.world.tree tree) (keeps : Keeps s.known contents) (image : IsImage (changed s tree contents path) w) where
  elsewhere : (q : Names) → q ≢ path → is_among s.loose q ≡ false → finite.get w.tree q ≡ finite.get s.world.tree q
  elsewhere q apart none = image.settled q (not_among path s.loose q apart none) ∙ others q apart

  -- the path was put or removed before
  again : is_among s.loose path ≡ true → IsImage s w
  again so = record {
    tree = image.tree;
    joins = fewer s.known contents w.tree keeps image.joins;
    settled = λ q none. elsewhere q (among_apart s.loose path q so none) none;
    no_shorter = image.no_shorter;
    no_longer = image.no_longer;
    synced = image.synced;
  }

  -- the tree with the file as it was before
  from_back : (back : Tree) → IsTree back → finite.get back path ≡ finite.get s.world.tree path → SameBut path w.tree back → Follows (FileStep path contents) (IsImage s) w
  from_back back tree_back here same = (
    record w { tree = back },
    record {
      tree = tree_back;
      joins = λ a b ha hb e. image.joins a b (up a ha) (up b hb) e;
      settled = λ q none. elim (cases_Bool (same_path q path)) [
        | inl so ↦ let e = (same_path-decides q path).0 so in ap (finite.get back) e ∙ here ∙ ap (finite.get s.world.tree) (sym e)
        | inr nay ↦ let apart : q ≢ path = λ e. both_ways _ nay ((same_path-decides q path).1 e) in same q apart ∙ elsewhere q apart none
      ];
      no_shorter = image.no_shorter;
      no_longer = image.no_longer;
      synced = image.synced;
    },
    record { others = λ q apart. sym (same q apart); store = refl; joins = image.joins },
  )
    where
      up : (c : Content) → IsHere s.known back c → IsHere contents w.tree c
      up c (inl k) = inl (keeps c k)
      up c (inr file) = elim (cases_Bool (same_path file.0 path)) [
        | inl so ↦ let e = (same_path-decides file.0 path).0 so in inl (keeps c (is.knows path c (sym here ∙ ap (finite.get back) (sym e) ∙ file.1)))
        | inr nay ↦ let apart : file.0 ≢ path = λ e. both_ways _ nay ((same_path-decides file.0 path).1 e) in inr (file.0, sym (same file.0 apart) ∙ file.1)
      ]

  not_in_line : is_among s.loose path ≡ false → IsSome (finite.get s.world.tree path) → (q : Names) → IsSome (finite.get w.tree q) → IsBelow q path ⊎ IsBelow path q → ⊥
  not_in_line nay there q q_there line = elim (cases_Bool (is_among s.loose q)) [
    | inl so ↦ both_ways _ nay (is.in_line q path so there line)
    | inr none ↦ both_there s.world.tree is.tree q path (subst IsSome (elsewhere q (apart line) none) q_there) there line
  ]
    where
      apart : IsBelow q path ⊎ IsBelow path q → q ≢ path
      apart (inl below) e = not_below_itself path (subst (λ (p : Names). IsBelow p path) e below)
      apart (inr below) e = not_below_itself path (subst (λ (p : Names). IsBelow path p) e below)

  at_top : IsSome (finite.get s.world.tree path) → path ≢ []
  at_top there e = let nay : false ≡ true = sym (ap is_some (ap (finite.get s.world.tree) e ∙ is.tree.no_top)) ∙ there in both_ways true (sym nay) refl

  file_back : is_among s.loose path ≡ false → (file : Option Content) → finite.get s.world.tree path ≡ file → Follows (FileStep path contents) (IsImage s) w
  file_back nay None was = from_back (finite.remove w.tree path) (removed_tree w.tree path image.tree) (gone w.tree path ∙ sym was) (λ q apart. get_removed_elsewhere w.tree path q apart)
  file_back nay (Some content) was =
      let there : IsSome (finite.get s.world.tree path) = ap is_some was in
      let place : IsPlace w.tree path = record {
        not_top = at_top there;
        none_above = λ q q_there below. not_in_line nay there q q_there (inl below);
        none_below = λ q q_there below. not_in_line nay there q q_there (inr below);
      } in
      from_back (finite.insert w.tree path content) (put_tree w.tree path content image.tree (some-from_all_keys IsPath s.world.tree is.tree.paths path there) place)
      (get_inserted w.tree path content ∙ sym was) (λ q apart. get_inserted_elsewhere w.tree path q content apart)

  pub file_step : IsImage s w ⊎ Follows (FileStep path contents) (IsImage s) w
  file_step = elim (cases_Bool (is_among s.loose path)) [
    | inl so ↦ inl (again so)
    | inr nay ↦ inr (file_back nay (finite.get s.world.tree path) refl)
  ]

pub put_step : (s : State) (path : Names) (content : Content) (w : World) → IsSound s → IsImage (with_put s path content) w → IsImage s w ⊎ Follows (FileStep path (content ∷ s.known)) (IsImage s) w
put_step s path content w is image =
    file_step s (finite.insert s.world.tree path content) (content ∷ s.known) path w is (λ q apart. get_inserted_elsewhere s.world.tree path q content apart) (λ c k. knows_more content s.known c k) image

pub removed_step : (s : State) (path : Names) (w : World) → IsSound s → IsImage (without_file s path) w → IsImage s w ⊎ Follows (FileStep path s.known) (IsImage s) w
removed_step s path w is image =
    file_step s (finite.remove s.world.tree path) s.known path w is (λ q apart. get_removed_elsewhere s.world.tree path q apart) (λ c k. k) image

-- ---- a settle and a sync

pub settled_step : (s : State) (w : World) → IsImage (settled s) w → IsImage s w
settled_step s w image = record {
  tree = image.tree;
  joins = image.joins;
  settled = λ path none. image.settled path refl;
  no_shorter = image.no_shorter;
  no_longer = image.no_longer;
  synced = image.synced;
}

pub settled_pins : (s : State) (w : World) → IsImage (settled s) w → w.tree ≡ s.world.tree
settled_pins s w image = same_tree w.tree s.world.tree (λ path. image.settled path refl)

pub synced_pins : (s : State) (w : World) → IsImage (synced s) w → w.store ≡ s.world.store
synced_pins s w image =
    let long : length w.store ≡ length s.world.store = omega (arith, image.no_shorter, image.no_longer) in
    same_lists w.store s.world.store long (λ k d below. image.synced k d (omega (arith, below, long)) refl)

pub synced_step : (s : State) (w : World) → IsSound s → IsImage (synced s) w → IsImage s w
synced_step s w is image = record {
  tree = image.tree;
  joins = image.joins;
  settled = image.settled;
  no_shorter = omega (arith, is.no_shorter, image.no_shorter);
  no_longer = omega (arith, is.no_longer, image.no_longer);
  synced = λ place d below none. ap (λ (l : List ℕ). get_or l place d) (synced_pins s w image);
}
