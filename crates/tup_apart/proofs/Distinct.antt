-- Paths of which none stands twice.
use Rattle.std.proofs.Common.{◌≡◌, ℕ, ◌<◌, Bool, true, false, not, ◌||◌, cond, List, [], ◌∷◌, ◌++◌, length, take, get_or, refl, sym, ap, ◌∙◌, subst, arith}
use Rattle.std.specs.Prelude.{Contains}
use Rattle.std.specs.BTreeSet.{BTreeSet, contains, Updates}
use Rattle.std.proofs.lemmas.Cmp.{lists_equiv, nat_list_eq_equiv}
use Rattle.std.specs.List.{IsDistinct, list_any}
use Rattle.std.specs.Ordering.{eq_by_cmp}
use Rattle.std.specs.declared.cmp.Ordering.{Ordering}
use Rattle.std.proofs.lemmas.Bool.{false≢true}
use Rattle.std.proofs.lemmas.List.{get_or-take, length-take}
use Rattle.std.proofs.lemmas.List.Elements.{Contains-push}
use Rattle.std.proofs.lemmas.List.Folds.{list_any-append}
use Rattle.std.proofs.lemmas.Map.Keys.{IsDistinct-from_apart, IsDistinct-push, apart_from_distinct}
use Rattle.std.specs.Borrow.{Bor}
use Rattle.tup_path.specs.Name.{Names}
use Rattle.tup_path.specs.Order.{by_names, same_path}
use Rattle.tup_path.proofs.Same.{by_names-decides, same_path-decides}
use Rattle.tup_rule.specs.Rule.{among}
use Rattle.tup_rule.proofs.Laws.{among-decides}

abbrev pub by_refs : Bor Names → Bor Names → Ordering
by_refs one other = by_names one.now other.now

-- a set has these paths
abbrev pub HasPaths : BTreeSet (Bor Names) → List Names → Type 0
HasPaths set paths = (one : Bor Names) → contains by_refs set one ≡ among one.now paths

pub has_more : (old new : BTreeSet (Bor Names)) (paths : List Names) (path : Bor Names) → Updates by_refs old new path true → HasPaths old paths → HasPaths new (paths ++ path.now ∷ [])
has_more old new paths path up has one = up.0 one ∙ by (eq_by_cmp by_names path.now one.now) refl
  where
    front : (a : Bool) → (a || false) ≡ a
    front true = refl
    front false = refl

    by : (same : Bool) → eq_by_cmp by_names path.now one.now ≡ same → cond same true (contains by_refs old one) ≡ among one.now (paths ++ path.now ∷ [])
    by true is = sym ((among-decides one.now (paths ++ path.now ∷ [])).1 (subst (Contains (paths ++ path.now ∷ [])) ((by_names-decides path.now one.now).0 is) (Contains-push paths path.now)))
    by false is =
        has one ∙ sym (list_any-append (same_path one.now) paths (path.now ∷ []) ∙ ap (λ (b : Bool). among one.now paths || (b || false)) other ∙ front (among one.now paths))
      where
        other : same_path one.now path.now ≡ false
        other = differs (same_path one.now path.now) (λ same. false≢true (sym is ∙ (by_names-decides path.now one.now).1 (sym ((same_path-decides one.now path.now).0 same))))
          where
            differs : (b : Bool) → (b ≡ true → ⊥) → b ≡ false
            differs true apart = absurd (apart refl)
            differs false apart = refl

pub has_none : (set : BTreeSet (Bor Names)) → set.keys ≡ [] → HasPaths set []
has_none set none one = ap (list_any (eq_by_cmp by_refs one)) none

-- what an insert tells: whether the path was among those before
pub new_one : (set : BTreeSet (Bor Names)) (paths : List Names) (path : Bor Names) (added : Bool) → HasPaths set paths → added ≡ not (contains by_refs set path) → added ≡ true → among path.now paths ≡ false
new_one set paths path added has told is = sym (has path) ∙ turned (contains by_refs set path) (sym told ∙ is)
  where
    turned : (b : Bool) → not b ≡ true → b ≡ false
    turned true e = absurd (false≢true e)
    turned false e = refl

pub old_one : (set : BTreeSet (Bor Names)) (paths : List Names) (path : Bor Names) (added : Bool) → HasPaths set paths → added ≡ not (contains by_refs set path) → added ≡ false → among path.now paths ≡ true
old_one set paths path added has told is = sym (has path) ∙ turned (contains by_refs set path) (sym told ∙ is)
  where
    turned : (b : Bool) → not b ≡ false → b ≡ true
    turned true e = refl
    turned false e = absurd (false≢true (sym e))

pub none_twice : IsDistinct same_path []
unfolding IsDistinct
none_twice = tt

-- of fewer than two none stands twice
pub few_once : (paths : List Names) → length paths < 2 → IsDistinct same_path paths
few_once paths few = IsDistinct-from_apart same_path paths (λ i j d less within. absurd (omega (arith, few, less, within)))

-- one more that isn't among them
pub once_more : (paths : List Names) (path : Names) → IsDistinct same_path paths → among path paths ≡ false → IsDistinct same_path (paths ++ path ∷ [])
once_more paths path once new = IsDistinct-push (lists_equiv nat_list_eq_equiv) paths path once new

-- one that is among those before it stands twice
pub twice : (paths : List Names) (at : ℕ) (path : Names) → at < length paths → path ≡ get_or paths at path → among path (take at paths) ≡ true → IsDistinct same_path paths → ⊥
twice paths at path within here before once =
    let found = (among-decides path (take at paths)).0 before in
    let less : found.0 < at = omega (arith, found.1, length-take at paths) in
    let same : get_or paths found.0 path ≡ get_or paths at path = sym (get_or-take at paths found.0 path less) ∙ found.2 ∙ here in
    false≢true (sym (apart_from_distinct same_path paths found.0 at path once less within) ∙ (same_path-decides (get_or paths found.0 path) (get_or paths at path)).1 same)
