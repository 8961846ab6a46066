-- A crash leaves a site that was just made as it is.
use Rattle.std.proofs.Common.{◌≡◌, ℕ, zero, suc, ◌≤◌, List, [], ◌∷◌, length, take, refl, sym, subst, ◌∙◌, arith}
use Rattle.tup_path.specs.Tree.{tree_of_files}
use Rattle.tup_path.proofs.Same.{same_tree}
use Rattle.tup_site.specs.History.{after_all, at_first}
use Rattle.tup_site.specs.Memory.{changes_of, first_of, left_since, moment_of, store_in, tree_in, world_in}
use Rattle.tup_site.specs.State.{IsImage}
use Rattle.tup_site.specs.World.{World}
use Rattle.tup_site.specs.declared.change.Change.{Change}
use Rattle.tup_site.specs.declared.memory.MemSite.{MemSite}
use Rattle.tup_history.specs.Kept.{IsUnbegun}

none_taken : (n : ℕ) → take {A = Change} n [] ≡ []
none_taken zero = refl
none_taken (suc n) = refl

no_bytes : (bytes : List ℕ) → length bytes ≤ 0 → bytes ≡ []
no_bytes [] less = refl
no_bytes (byte ∷ bytes) less = absurd (omega (arith, less))

module _ (site : MemSite) (tree : tree_in site ≡ tree_of_files (first_of site)) (store : store_in site ≡ []) (none : changes_of site ≡ []) where
  image_of : (w : World) → left_since site (moment_of site) w → IsImage (at_first (first_of site)) w
  image_of w left =
      subst (λ (changes : List Change). IsImage (after_all (at_first (first_of site)) changes) w) (none_taken left.moment)
      (subst (λ (changes : List Change). IsImage (after_all (at_first (first_of site)) (take left.moment changes)) w) none left.image)

  as_it_is : (w : World) → left_since site (moment_of site) w → w ≡ world_in site
  as_it_is w left =
      let image = image_of w left in
      let tree_is : w.tree ≡ tree_in site = same_tree w.tree (tree_of_files (first_of site)) (λ path. image.settled path refl) ∙ sym tree in
      let store_is : w.store ≡ store_in site = no_bytes w.store image.no_longer ∙ sym store in
      λ i. record { tree = tree_is i; store = store_is i }

  pub new_unbegun : IsUnbegun site
  new_unbegun = record { no_store = store; durable = as_it_is }
