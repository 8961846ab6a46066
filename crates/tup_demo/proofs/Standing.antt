-- The files of the project are a tree.
use Rattle.std.proofs.Common.{◌≡◌, ◌≢◌, ℕ, zero, suc, ◌+◌, ◌<◌, ◌≤◌, List, [], ◌∷◌, ◌++◌, length, All, codes, None, IsSome, Result, Ok, Err, IfErr, refl, sym, ap, subst, ◌∙◌, arith, length-append}
use Rattle.std.proofs.lemmas.List.Elements.{All-from_recursion}
use Rattle.std.specs.FinMap as finite
use Rattle.std.specs.List.{AllPairs}
use Rattle.std.specs.Map.{keys_of}
use Rattle.tup_path.specs.Name.{Names, Content, IsNameByte, IsVisibleName, IsPath}
use Rattle.tup_path.specs.Order.{by_names, by_names-total}
use Rattle.tup_path.specs.Tree.{Tree, IsTree, IsBelow}
use Rattle.tup_site.specs.Edit.{AreATree}
use Rattle.tup_site.specs.History.{contents_of}
use Rattle.tup_site.specs.Known.{IsKnown}
use Rattle.tup_site.specs.declared.refused.MemRefused.{MemRefused}
use Rattle.tup_site.specs.declared.refused.MemRefused.TheVariants.{NotATree, SameStamp, NotAnImage, Memory}
use Rattle.tup_demo.specs.Project.{demo_files, demo_tree}
use Rattle.tup_demo.proofs.Files.{content_there, demo_entries, of_each}
use Rattle.tup_demo.proofs.Stamps.{known}

once : AllPairs (λ a b. a ≢ b) (keys_of demo_files)
once i zero d before within = absurd (omega (arith, before))
once zero (suc zero) d before within = λ e. cc
once (suc i) (suc zero) d before within = absurd (omega (arith, before))
once i (suc (suc j)) d before within = absurd (omega (arith, within))

-- a byte between the exclamation mark and the tilde, and no slash
letter : (b : ℕ) → 33 ≤ b → b ≤ 126 → b ≢ 47 → IsNameByte b
letter b more less slash = (more, (λ e. absurd (omega (arith, less, e))), slash)

a_is_visible : IsVisibleName (codes "a")
unfolding lib.Utf8.encode
a_is_visible = record {
  text = (codes "a", (refl, refl));
  not_empty = omega arith;
  not_long = omega arith;
  not_hidden = λ e. cc;
  bytes = All-from_recursion IsNameByte (codes "a") (letter 97 (omega arith) (omega arith) (λ e. cc), tt);
}

tupfile_is_visible : IsVisibleName (codes "Tupfile")
unfolding lib.Utf8.encode
tupfile_is_visible = record {
  text = (codes "Tupfile", (refl, refl));
  not_empty = omega arith;
  not_long = omega arith;
  not_hidden = λ e. cc;
  bytes =
      All-from_recursion IsNameByte (codes "Tupfile") (
        letter 84 (omega arith) (omega arith) (λ e. cc),
        (
          letter 117 (omega arith) (omega arith) (λ e. cc),
          (
            letter 112 (omega arith) (omega arith) (λ e. cc),
            (
              letter 102 (omega arith) (omega arith) (λ e. cc),
              (letter 105 (omega arith) (omega arith) (λ e. cc), (letter 108 (omega arith) (omega arith) (λ e. cc), (letter 101 (omega arith) (omega arith) (λ e. cc), tt))),
            ),
          ),
        ),
      );
}

one_name : (name : List ℕ) → IsVisibleName name → IsPath (name ∷ [])
one_name name visible = record { names = All-from_recursion IsVisibleName (name ∷ []) (visible, tt); depth = omega arith }

paths : All IsPath (finite.keys demo_tree)
paths =
    subst (λ (files : List (Names × Content)). All IsPath (keys_of files)) (sym demo_entries)
    (All-from_recursion IsPath (keys_of demo_files) (one_name (codes "Tupfile") tupfile_is_visible, (one_name (codes "a") a_is_visible, tt)))

-- each file is one name below the top
flat : (path : Names) → IsSome (finite.get demo_tree path) → length path ≡ 1
flat path some =
    let found = content_there (finite.get demo_tree path) some in
    of_each (λ (p : Names) (c : Content). length p ≡ 1) demo_tree demo_files path found.0 demo_entries (refl, (refl, tt)) found.1

no_rest : (rest : Names) → length rest ≡ 0 → rest ≡ []
no_rest [] e = refl
no_rest (name ∷ rest) e = absurd (omega (arith, e))

alone : (folder path : Names) → IsSome (finite.get demo_tree folder) → IsSome (finite.get demo_tree path) → IsBelow folder path → ⊥
alone folder path above below (rest, more, is) =
    let one = flat folder above in
    let other = flat path below in
    let both = ap length is ∙ length-append folder rest in
    more (no_rest rest (omega (arith, one, other, both)))

pub are_a_tree : AreATree demo_files
are_a_tree = record {
  once = once;
  tree = record {
    paths = paths;
    no_top = finite.get-from_entries by_names-total demo_files [];
    no_file_above = alone;
  };
}

-- so a site is refused them for want of memory alone
pub only_memory : {T : Type 0} (files : List (Names × Content)) (result : Result T MemRefused) → files ≡ demo_files → (result ≡ Err NotATree → ¬ AreATree files) → (result ≡ Err SameStamp → AreATree files × (¬ IsKnown (contents_of files)))
    → result ≢ Err NotAnImage → IfErr result (λ refused. refused ≡ Memory)
only_memory files (Ok site) are tree stamps image = tt
only_memory files (Err NotATree) are tree stamps image = absurd (tree refl (subst AreATree (sym are) are_a_tree))
only_memory files (Err SameStamp) are tree stamps image = absurd ((stamps refl).1 (subst (λ (fs : List (Names × Content)). IsKnown (contents_of fs)) (sym are) known))
only_memory files (Err NotAnImage) are tree stamps image = absurd (image refl)
only_memory files (Err Memory) are tree stamps image = refl
