-- Files that are removed one after another.
use Rattle.std.proofs.Common.{◌≡◌, ◌≢◌, ℕ, ◌+◌, ◌<◌, Bool, true, false, cond, ◌||◌, List, [], ◌∷◌, ◌++◌, length, take, drop, get_or, slice_get, None, Some, Option, refl, sym, ap, subst, ◌∙◌, arith, take-append-drop}
use Rattle.std.specs.FinMap as finite
use Rattle.std.proofs.lemmas.Bool.{false≢true}
use Rattle.std.proofs.lemmas.List.{take_more}
use Rattle.std.proofs.lemmas.List.Folds.{list_any_at, list_any-append}
use Rattle.std.proofs.lemmas.List.Sums.{fold-append}
use Rattle.std.proofs.lemmas.Option.{slice_get-get_or, slice_get_within, get_or_from_slice_get}
use Rattle.tup_path.specs.Name.{Names}
use Rattle.tup_path.specs.Order.{same_path}
use Rattle.tup_path.specs.Tree.{Tree}
use Rattle.tup_path.proofs.Same.{same_path-decides}
use Rattle.tup_site.specs.Cause.{SameBut}
use Rattle.tup_rule.specs.Rule.{among}
use Rattle.tup_graph.proofs.Keeping.{get_removed}
use Rattle.tup_stale.specs.Files.{without, SameBeside, IsTried, IsPart}

-- ---- one more file
pub without_more : (tree between : Tree) (files : List Names) (i : ℕ) (path : Names) → i < length files → get_or files i path ≡ path
    → between ≡ without tree (take i files) → finite.remove between path ≡ without tree (take (i + 1) files)
without_more tree between files i path within here is =
    ap (λ (t : Tree). finite.remove t path) is
    ∙ sym (fold-append finite.remove tree (take i files) (path ∷ []))
    ∙ ap (λ (p : Names). without tree (take i files ++ p ∷ [])) (sym here)
    ∙ ap (without tree) (sym (take_more files i path within))

-- it was tried behind those that are gone
pub part_tried : (tree between now : Tree) (files : List Names) (i : ℕ) (path : Names) → i < length files → get_or files i path ≡ path
    → between ≡ without tree (take i files) → SameBut path between now → IsPart files tree now
part_tried tree between now files i path within here is same = record {
  gone = i;
  within = omega arith;
  next = subst (λ (o : Option Names). IsTried o (without tree (take i files)) now) (sym (slice_get-get_or files i path within ∙ ap Some here))
      (subst (λ (t : Tree). SameBut path t now) is same);
}

-- ---- beside the files
apart : (path other : Names) → same_path path other ≡ false → path ≢ other
apart path other e same = false≢true (sym e ∙ (same_path-decides path other).1 same)

-- a path at a place is among them
pub among_at : (files : List Names) (i : ℕ) (path : Names) → i < length files → get_or files i path ≡ path → among path files ≡ true
among_at files i path within here = list_any_at (same_path path) files i path within ((same_path-decides path (get_or files i path)).1 (sym here))

pub beside_one : (files : List Names) (path : Names) (v w : Tree) → among path files ≡ true → SameBut path v w → SameBeside files v w
beside_one files path v w inside same other outside =
    same other (λ is. false≢true (sym outside ∙ ap (λ (p : Names). among p files) is ∙ inside))

pub beside_then : (files : List Names) (u v w : Tree) → SameBeside files u v → SameBeside files v w → SameBeside files u w
beside_then files u v w first last other outside = last other outside ∙ first other outside

pub beside_same : (files : List Names) (v w : Tree) → w ≡ v → SameBeside files v w
beside_same files v w is other outside = ap (λ (t : Tree). finite.get t other) is

-- ---- beside some paths
outside_front : (files : List Names) (n : ℕ) (path : Names) → among path files ≡ false → among path (take n files) ≡ false
outside_front files n path outside =
    front_false (among path (take n files)) (among path (drop n files))
    (sym (list_any-append (same_path path) (take n files) (drop n files)) ∙ ap (among path) (take-append-drop n files) ∙ outside)
  where
    front_false : (a b : Bool) → (a || b) ≡ false → a ≡ false
    front_false true b is = absurd (false≢true (sym is))
    front_false false b is = refl

pub beside_without : (files : List Names) (tree : Tree) → SameBeside files tree (without tree files)
beside_without files tree other outside = get_removed files tree other ∙ ap (λ (b : Bool). cond b None (finite.get tree other)) outside

-- where some files are gone and one was tried, all else is as it was
pub beside_part : (files : List Names) (old new : Tree) → IsPart files old new → SameBeside files old new
beside_part files old new part = by (slice_get files part.gone) refl part.next
  where
    between : Tree
    between = without old (take part.gone files)

    before : SameBeside files old between
    before other outside = beside_without (take part.gone files) old other (outside_front files part.gone other outside)

    by : (o : Option Names) → slice_get files part.gone ≡ o → IsTried o between new → SameBeside files old new
    by None none is = beside_then files old between new before (beside_same files between new is)
    by (Some path) here same =
        beside_then files old between new before (beside_one files path between new
        (among_at files part.gone path (slice_get_within files part.gone path here) (get_or_from_slice_get files part.gone path path here)) same)
