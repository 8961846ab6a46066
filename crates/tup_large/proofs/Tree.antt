-- The files of the project are a tree.
use Rattle.std.proofs.Common.{◌≡◌, ◌≢◌, ◌⊎◌, inl, inr, ℕ, zero, suc, ◌+◌, ◌<◌, ◌≤◌, List, [], ◌∷◌, ◌++◌, length, All, codes, decimal, Option, None, Some, IsSome, is_some, refl, sym, ap, subst, ◌∙◌, arith, length-append}
use Rattle.std.specs.Ordering.{eq_by_cmp}
use Rattle.std.specs.FinMap as finite
use Rattle.std.specs.FinMap.Entries.{is_some-find}
use Rattle.std.specs.Map.{keys_of}
use Rattle.std.proofs.lemmas.List.{map-append}
use Rattle.std.proofs.lemmas.List.Elements.{All-append, All-cons, All-from_recursion, All-nil}
use Rattle.std.proofs.lemmas.List.Folds.{Any-from_list_any}
use Rattle.tup_path.specs.Name.{Names, Content, IsPath, IsVisibleName}
use Rattle.tup_path.specs.Order.{by_names, by_names-total}
use Rattle.tup_path.specs.Tree.{IsBelow, tree_of_files}
use Rattle.tup_path.proofs.Same.{by_names-decides}
use Rattle.tup_site.specs.Edit.{AreATree}
use Rattle.tup_site.proofs.Trees.{all_keys-from_some}
use Rattle.tup_large.specs.Project.{each, header, headers, folder_name, source, sources, files_in, all_folders, large_files}
use Rattle.tup_large.proofs.Names.{tupfile_visible, inc_visible, header_visible, source_visible, folder_visible}
use Rattle.tup_large.proofs.Ranks.{once}

-- ---- what holds of each path of a list of files

abbrev Listed : Type 0
Listed = List (Names × Content)

module _ (P : Names → Type 0) where
  -- it holds of each path of their tree
  in_tree : (files : Listed) → All P (keys_of files) → (path : Names) → IsSome (finite.get (tree_of_files files) path) → P path
  in_tree files all path there =
      let listed = ap is_some (finite.get-from_entries by_names-total files path) ∙ is_some-find by_names path files in
      let any = Any-from_list_any (eq_by_cmp by_names path) (keys_of files) (sym listed ∙ there) in
      subst P (any.3 ∙ sym ((by_names-decides path any.1).0 any.4)) (all any.0 any.1 any.2)

  of_both : (files more : Listed) → All P (keys_of files) → All P (keys_of more) → All P (keys_of (files ++ more))
  of_both files more all also = subst (All P) (sym (map-append (λ (file : Names × Content). file.0) files more)) (All-append P (keys_of files) (keys_of more) all also)

  of_each : (gives : ℕ → Listed) (n : ℕ) → ((k : ℕ) → k < n → All P (keys_of (gives k))) → All P (keys_of (each gives n))
  of_each gives zero all = All-nil P
  of_each gives (suc n) all = of_both (each gives n) (gives n) (of_each gives n (λ k below. all k (omega (arith, below)))) (all n (omega arith))

-- ---- the paths of the project

-- the first byte of the first name
abbrev first_byte : Names → ℕ
first_byte ((byte ∷ bytes) ∷ names) = byte
first_byte other = 0

-- it is the Tupfile of the top, or lies in a folder of another first byte
abbrev Lies : Names → Type 0
Lies path = (path ≡ codes "Tupfile" ∷ []) ⊎ ((length path ≡ 2) × (first_byte path ≢ 84))

record IsOne (path : Names) : Type 0 where
  is_path : IsPath path
  lies : Lies path

one_in : (folder name : List ℕ) → IsVisibleName folder → IsVisibleName name → first_byte (folder ∷ name ∷ []) ≢ 84 → IsOne (folder ∷ name ∷ [])
one_in folder name folder_is name_is other = record {
  is_path = record { names = All-from_recursion IsVisibleName (folder ∷ name ∷ []) (folder_is, (name_is, tt)); depth = omega arith };
  lies = inr (refl, other);
}

top_one : IsOne (codes "Tupfile" ∷ [])
top_one = record {
  is_path = record { names = All-from_recursion IsVisibleName (codes "Tupfile" ∷ []) (tupfile_visible, tt); depth = omega arith };
  lies = inl refl;
}

one_alone : (path : Names) → IsOne path → All IsOne (path ∷ [])
one_alone path one = All-cons IsOne path [] one (All-nil IsOne)

headers_one : All IsOne (keys_of headers)
headers_one = of_each IsOne (λ number. header number ∷ []) 10 (λ k below. one_alone (header k).0 (one_in (codes "inc") _ inc_visible (header_visible k below) (omega arith)))

-- the first byte of a folder of the project
folder_byte : (number : ℕ) (name : List ℕ) → first_byte (folder_name number ∷ name ∷ []) ≢ 84
folder_byte number name = omega arith

folder_one : (number : ℕ) → number < 10000 → All IsOne (keys_of (files_in (folder_name number)))
folder_one number small =
    All-cons IsOne (folder_name number ∷ codes "Tupfile" ∷ []) (keys_of (sources (folder_name number)))
    (one_in (folder_name number) (codes "Tupfile") (folder_visible number small) tupfile_visible (folder_byte number (codes "Tupfile")))
    (of_each IsOne (λ k. source (folder_name number) k ∷ []) 10 (λ k below.
    one_alone (source (folder_name number) k).0 (one_in (folder_name number) (codes "s" ++ (decimal k ++ codes ".c")) (folder_visible number small) (source_visible k below) (folder_byte number (codes "s" ++ (decimal k ++ codes ".c"))))))

all_one : (folders : ℕ) → folders ≤ 10000 → All IsOne (keys_of (large_files folders))
all_one folders few =
    All-cons IsOne (codes "Tupfile" ∷ []) (keys_of (headers ++ all_folders folders)) top_one
    (of_both IsOne headers (all_folders folders) headers_one (of_each IsOne (λ number. files_in (folder_name number)) folders (λ k below. folder_one k (omega (arith, few, below)))))

-- ---- none is at the top, and none above another

not_top : IsOne [] → ⊥
not_top one = by one.lies
  where
    by : Lies [] → ⊥
    by (inl is) = let none = ap length is in omega (arith, none)
    by (inr (two, other)) = omega (arith, two)

nothing : {A : Type 0} (found : Option A) → (IsSome found → ⊥) → found ≡ None
nothing None none = refl
nothing (Some value) none = absurd (none refl)

some_names : (names : Names) → names ≢ [] → 0 < length names
some_names [] some = absurd (some refl)
some_names (name ∷ names) some = omega arith

not_above : (folder path : Names) → IsOne folder → IsOne path → IsBelow folder path → ⊥
not_above folder path upper one (rest, some, is) = by upper.lies one.lies
  where
    longer : 0 < length rest
    longer = some_names rest some

    long : length path ≡ length folder + length rest
    long = ap length is ∙ length-append folder rest

    by : Lies folder → Lies path → ⊥
    by (inl top) (inl also) = let one_name = ap length top in let one_too = ap length also in omega (arith, one_name, one_too, long, longer)
    by (inl top) (inr (two, other)) = other (ap first_byte is ∙ ap (λ (names : Names). first_byte (names ++ rest)) top)
    by (inr (two, other)) (inl also) = let one_name = ap length also in omega (arith, one_name, two, long, longer)
    by (inr (two, other)) (inr (also, apart)) = omega (arith, two, also, long, longer)

pub are_a_tree : (folders : ℕ) → folders ≤ 10000 → AreATree (large_files folders)
are_a_tree folders few =
    let files = large_files folders in
    let one = in_tree IsOne files (all_one folders few) in
    record {
      once = once folders few;
      tree = record {
        paths = all_keys-from_some IsPath (tree_of_files files) (λ path there. (one path there).is_path);
        no_top = nothing (finite.get (tree_of_files files) []) (λ there. not_top (one [] there));
        no_file_above = λ folder path upper lower below. not_above folder path (one folder upper) (one path lower) below;
      };
    }
