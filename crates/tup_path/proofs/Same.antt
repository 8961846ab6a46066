-- What tests and look-ups tell of equality: paths and trees are equal just where they can't be told apart.
use Rattle.std.specs.Prelude.{◌≡◌, ◌≢◌, Bool, true, false, Some, None, cond, Decides, List, ℕ, bytes_eq, refl}
use Rattle.std.specs.Ordering.{eq_by_cmp}
use Rattle.std.specs.FinMap as finite
use Rattle.std.proofs.Common.{ap, subst, ◌∙◌}
use Rattle.std.specs.Cmp.Lexicographic.{bytes_decides, pointwise_decides}
use Rattle.tup_path.specs.Name.{Names, Content}
use Rattle.tup_path.specs.Order.{by_names, same_path, same_path-by_names, by_names-total, by_names-antisymmetric}
use Rattle.tup_path.specs.Tree.{Tree}

pub differs : {P : Type 0} (b : Bool) → Decides b P → ¬ P → b ≡ false
differs true tells apart = absurd (apart (tells.0 refl))
differs false tells apart = refl

-- `==` of two contents or texts
pub same_bytes-decides : (x y : List ℕ) → Decides (bytes_eq x y) (x ≡ y)
same_bytes-decides = bytes_decides

-- `==` of two paths
pub same_path-decides : (x y : Names) → Decides (same_path x y) (x ≡ y)
same_path-decides = pointwise_decides bytes_decides

-- `cmp` of two paths
pub by_names-decides : (x y : Names) → Decides (eq_by_cmp by_names x y) (x ≡ y)
by_names-decides x y = subst (λ b. Decides b (x ≡ y)) (same_path-by_names x y) (same_path-decides x y)

pub get_inserted : (tree : Tree) (path : Names) (content : Content) → finite.get (finite.insert tree path content) path ≡ Some content
get_inserted tree path content = finite.get-insert by_names-total tree path content path ∙ ap (λ b. cond b (Some content) (finite.get tree path)) ((by_names-decides path path).1 refl)

pub get_inserted_elsewhere : (tree : Tree) (path other : Names) (content : Content) → other ≢ path → finite.get (finite.insert tree path content) other ≡ finite.get tree other
get_inserted_elsewhere tree path other content apart =
    finite.get-insert by_names-total tree path content other ∙ ap (λ b. cond b (Some content) (finite.get tree other)) (differs (eq_by_cmp by_names other path) (by_names-decides other path) apart)

pub get_removed_elsewhere : (tree : Tree) (path other : Names) → other ≢ path → finite.get (finite.remove tree path) other ≡ finite.get tree other
get_removed_elsewhere tree path other apart =
    finite.get-remove by_names-total tree path other ∙ ap (λ b. cond b None (finite.get tree other)) (differs (eq_by_cmp by_names other path) (by_names-decides other path) apart)

-- trees with the same content at each path are equal
pub same_tree : (x y : Tree) → ((path : Names) → finite.get x path ≡ finite.get y path) → x ≡ y
same_tree x y same = finite.same_map by_names-total by_names-antisymmetric x y same
