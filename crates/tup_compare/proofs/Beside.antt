-- What is left of a tree beside some of its files.
use Rattle.std.proofs.Common.{◌≡◌, Bool, true, false, cond, not, List, Option, None, IsSome, refl, sym, ◌∙◌, ap, subst}
use Rattle.std.specs.FinMap as finite
use Rattle.std.proofs.lemmas.Bool.{false≢true}
use Rattle.tup_path.specs.Name.{Names, Content}
use Rattle.tup_path.specs.Order.{by_names-antisymmetric}
use Rattle.tup_path.specs.Tree.{Tree}
use Rattle.tup_rule.specs.Rule.{among}
use Rattle.tup_compare.specs.Sources.{files_beside}

-- a file is left where it isn't among those
pub get_beside : (paths : List Names) (tree : Tree) (path : Names) →
    finite.get (files_beside paths tree) path ≡ cond (not (among path paths)) (finite.get tree path) None
get_beside paths tree path =
    finite.get-retain_keys tree (λ p. not (among p paths)) path (λ other tied. ap (λ (p : Names). not (among p paths)) (sym (by_names-antisymmetric path other tied)))

-- a file that is left is what it was
pub left_is : (paths : List Names) (tree : Tree) (path : Names) → IsSome (finite.get (files_beside paths tree) path) →
    (among path paths ≡ false) × (finite.get (files_beside paths tree) path ≡ finite.get tree path)
left_is paths tree path there = by (among path paths) refl
  where
    by : (b : Bool) → among path paths ≡ b → (among path paths ≡ false) × (finite.get (files_beside paths tree) path ≡ finite.get tree path)
    by true e = absurd (false≢true (subst (λ (found : Option Content). IsSome found) (get_beside paths tree path ∙ ap (λ (b : Bool). cond (not b) (finite.get tree path) None) e) there))
    by false e = (e, get_beside paths tree path ∙ ap (λ (b : Bool). cond (not b) (finite.get tree path) None) e)
