-- A list of files taken in one by one.
use Rattle.std.proofs.Common.{◌≡◌, ◌≢◌, ℕ, ◌+◌, ◌<◌, true, cond, List, [], ◌∷◌, ◌++◌, Some, bytes_eq, take, drop, length, get_or, refl, sym, ap, subst, ◌∙◌, take-append-drop}
use Rattle.std.proofs.lemmas.List.{take_more, drop_more, map-append}
use Rattle.std.proofs.lemmas.Bool.{or_left, or_right}
use Rattle.std.proofs.lemmas.List.Folds.{list_any-append}
use Rattle.std.specs.BTreeMap.{is_at}
use Rattle.std.specs.FinMap as finite
use Rattle.std.specs.List.{AllPairs}
use Rattle.std.specs.Map.{keys_of}
use Rattle.tup_path.specs.Name.{Names, Content}
use Rattle.tup_path.specs.Tree.{tree_of_files}
use Rattle.tup_stamp.specs.Stamp.{stamp}
use Rattle.tup_stamp.specs.declared.Stamp.{Stamp}
use Rattle.tup_site.specs.Edit.{MayAdd, AreATree}
use Rattle.tup_site.specs.History.{contents_of}
use Rattle.tup_site.specs.Known.{knows, IsKnown, MayJoin}
use Rattle.tup_site.specs.Held.{by_stamp, under, IsHeld}
use Rattle.tup_site.proofs.Among.{knows_newest}
use Rattle.tup_site.proofs.Held.{held_more, held_same, knows_push}
use Rattle.tup_site.proofs.Made.{once_more, tree_more, refused}
use Rattle.tup_site.proofs.Sound.{known_more}

abbrev Listed : Type 0
Listed = List (Names × Content)

module _ (list : Listed) (i : ℕ) (file : Names × Content) (below : i < length list) (is : file ≡ get_or list i file) where
  pub one_more_file : take (i + 1) list ≡ take i list ++ file ∷ []
  one_more_file = take_more list i file below ∙ ap (λ (f : Names × Content). take i list ++ f ∷ []) (sym is)

  split : take i list ++ file ∷ drop (i + 1) list ≡ list
  split = ap (λ (f : Names × Content). take i list ++ f ∷ drop (i + 1) list) is ∙ ap (λ (l : Listed). take i list ++ l) (sym (drop_more list i file below)) ∙ take-append-drop i list

  -- ---- as a tree

  pub once_next : AllPairs (λ a b. a ≢ b) (keys_of (take i list)) → MayAdd (tree_of_files (take i list)) file.0 → AllPairs (λ a b. a ≢ b) (keys_of (take (i + 1) list))
  once_next once may = subst (λ (l : Listed). AllPairs (λ a b. a ≢ b) (keys_of l)) (sym one_more_file) (once_more (take i list) file.0 file.1 once may)

  pub tree_next : MayAdd (tree_of_files (take i list)) file.0 → finite.insert (tree_of_files (take i list)) file.0 file.1 ≡ tree_of_files (take (i + 1) list)
  tree_next may = tree_more (take i list) file.0 file.1 may ∙ ap tree_of_files (sym one_more_file)

  pub tree_refused : (MayAdd (tree_of_files (take i list)) file.0 → ⊥) → AreATree list → ⊥
  tree_refused not are = refused (take i list) (drop (i + 1) list) file.0 file.1 not (subst AreATree (sym split) are)

  -- ---- as known contents

  contents_next : contents_of (take (i + 1) list) ≡ contents_of (take i list) ++ file.1 ∷ []
  contents_next = ap contents_of one_more_file ∙ map-append (λ (f : Names × Content). f.1) (take i list) (file ∷ [])

  knows_next : (content : Content) → knows (contents_of (take (i + 1) list)) content ≡ knows (file.1 ∷ contents_of (take i list)) content
  knows_next content = ap (λ (cs : List Content). knows cs content) contents_next ∙ knows_push (contents_of (take i list)) file.1 content

  pub known_next : IsKnown (contents_of (take i list)) → MayJoin (contents_of (take i list)) file.1 → IsKnown (contents_of (take (i + 1) list))
  known_next known may a b ka kb e = known_more (contents_of (take i list)) file.1 known may a b (sym (knows_next a) ∙ ka) (sym (knows_next b) ∙ kb) e

  pub held_next : (entries entries' : List (Stamp × Content)) → IsHeld entries (contents_of (take i list)) → MayJoin (contents_of (take i list)) file.1 → ((key : Stamp) → under entries' key ≡ cond (is_at (by_stamp (stamp file.1)) key) (Some file.1) (under entries key)) → IsHeld entries' (contents_of (take (i + 1) list))
  held_next entries entries' held may taken =
      held_same entries' entries' (file.1 ∷ contents_of (take i list)) (contents_of (take (i + 1) list)) (λ key. refl) knows_next (held_more entries entries' (contents_of (take i list)) file.1 held may taken)

  contents_split : contents_of list ≡ contents_of (take i list) ++ file.1 ∷ contents_of (drop (i + 1) list)
  contents_split = ap contents_of (sym split) ∙ map-append (λ (f : Names × Content). f.1) (take i list) (file ∷ drop (i + 1) list)

  in_front : (content : Content) → knows (contents_of (take i list)) content ≡ true → knows (contents_of list) content ≡ true
  in_front content k = ap (λ (cs : List Content). knows cs content) contents_split ∙ list_any-append (bytes_eq content) (contents_of (take i list)) (file.1 ∷ contents_of (drop (i + 1) list)) ∙ or_left _ _ k

  here : knows (contents_of list) file.1 ≡ true
  here = ap (λ (cs : List Content). knows cs file.1) contents_split ∙ list_any-append (bytes_eq file.1) (contents_of (take i list)) (file.1 ∷ contents_of (drop (i + 1) list)) ∙ or_right _ _ (knows_newest file.1 (contents_of (drop (i + 1) list)))

  pub known_refused : (MayJoin (contents_of (take i list)) file.1 → ⊥) → IsKnown (contents_of list) → ⊥
  known_refused not known = not (λ other k e. known other file.1 (in_front other k) here e)

  pub held_taken : (entries entries' : List (Stamp × Content)) (key : Stamp) (content : Content) → IsHeld entries (contents_of (take i list)) → MayJoin (contents_of (take i list)) file.1 → key ≡ stamp file.1 → content ≡ file.1 → ((q : Stamp) → under entries' q ≡ cond (is_at (by_stamp key) q) (Some content) (under entries q)) → IsHeld entries' (contents_of (take (i + 1) list))
  held_taken entries entries' key content held may is_key is_content taken =
      held_next entries entries' held may (λ q. taken q ∙ ap (λ (k : Stamp). cond (is_at (by_stamp k) q) (Some content) (under entries q)) is_key ∙ ap (λ (c : Content). cond (is_at (by_stamp (stamp file.1)) q) (Some c) (under entries q)) is_content)
