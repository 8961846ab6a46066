-- Files that are put one after another.
use Rattle.std.proofs.Common.{◌≡◌, ℕ, ◌+◌, ◌<◌, ◌≤◌, Bool, true, false, cond, List, [], ◌∷◌, ◌++◌, length, take, get_or, Some, refl, sym, ap, subst, ◌∙◌, arith}
use Rattle.std.specs.Prelude.{All, Contains}
use Rattle.std.specs.FinMap as finite
use Rattle.std.specs.Ordering.{eq_by_cmp}
use Rattle.std.proofs.lemmas.List.{take_more, take_all, length-map, get_or-map}
use Rattle.std.proofs.lemmas.List.Elements.{All-push, All-weaker, Contains-get_or}
use Rattle.tup_path.specs.Name.{Names, Content}
use Rattle.tup_path.specs.Order.{by_names, by_names-total}
use Rattle.tup_path.specs.Tree.{Tree}
use Rattle.tup_path.proofs.Same.{by_names-decides}
use Rattle.tup_rule.specs.Rule.{among}
use Rattle.tup_stale.proofs.Removals.{among_at}
use Rattle.tup_rule_outputs.specs.Ground.{paths_of, AreAtOnce, HoldsFiles}

-- some of the files stand
abbrev pub IsThere : List (Names × Content) → Tree → Names × Content → Type 0
IsThere files tree file = Contains files file × (finite.get tree file.0 ≡ Some file.1)

abbrev pub Stand : List (Names × Content) → List (Names × Content) → Tree → Type 0
Stand files some tree = All (IsThere files tree) some

-- the path of a file is one of theirs
abbrev path_of : Names × Content → Names
path_of file = file.0

pub path_among : (files : List (Names × Content)) (i : ℕ) (file : Names × Content) → i < length files → get_or files i file ≡ file → among file.0 (paths_of files) ≡ true
path_among files i file within here =
    among_at (paths_of files) i file.0 (let long = length-map files path_of in omega (arith, long, within)) (get_or-map path_of files i file file.0 within ∙ ap path_of here)

-- what stands at a path, once a file was put
put_here : (tree : Tree) (path : Names) (content : Content) → finite.get (finite.insert tree path content) path ≡ Some content
put_here tree path content =
    finite.get-insert by_names-total tree path content path
    ∙ ap (λ (b : Bool). cond b (Some content) (finite.get tree path)) ((by_names-decides path path).1 refl)

one_more : (files : List (Names × Content)) (tree : Tree) (file other : Names × Content) → AreAtOnce files → Contains files file → Contains files other
    → finite.get tree other.0 ≡ Some other.1 → finite.get (finite.insert tree file.0 file.1) other.0 ≡ Some other.1
one_more files tree file other once here there stands =
    finite.get-insert by_names-total tree file.0 file.1 other.0 ∙ go (eq_by_cmp by_names other.0 file.0) refl
  where
    go : (b : Bool) → eq_by_cmp by_names other.0 file.0 ≡ b → cond (eq_by_cmp by_names other.0 file.0) (Some file.1) (finite.get tree other.0) ≡ Some other.1
    go true same =
        ap (λ (c : Bool). cond c (Some file.1) (finite.get tree other.0)) same
        ∙ ap Some (once file other here there (sym ((by_names-decides other.0 file.0).0 same)))
    go false apart = ap (λ (c : Bool). cond c (Some file.1) (finite.get tree other.0)) apart ∙ stands

-- ---- one more file was put
pub stand_more : (files : List (Names × Content)) (before now : Tree) (i : ℕ) (file : Names × Content) → AreAtOnce files → i < length files → get_or files i file ≡ file
    → now ≡ finite.insert before file.0 file.1 → Stand files (take i files) before → Stand files (take (i + 1) files) now
stand_more files before now i file once within here is stand =
    subst (λ (some : List (Names × Content)). Stand files some now) (sym (take_more files i file within ∙ ap (λ (f : Names × Content). take i files ++ f ∷ []) here))
    (All-push (IsThere files now) (take i files) file
    (All-weaker (IsThere files before) (IsThere files now) (λ other had. (had.0, ap (λ (t : Tree). finite.get t other.0) is ∙ one_more files before file other once is_file had.0 had.1)) (take i files) stand)
    (is_file, ap (λ (t : Tree). finite.get t file.0) is ∙ put_here before file.0 file.1))
  where
    is_file : Contains files file
    is_file = subst (Contains files) here (Contains-get_or files i file within)

pub all_stand : (files : List (Names × Content)) (tree : Tree) (i : ℕ) → length files ≤ i → Stand files (take i files) tree → HoldsFiles files tree
all_stand files tree i past stand = All-weaker (IsThere files tree) (λ (file : Names × Content). finite.get tree file.0 ≡ Some file.1) (λ file had. had.1) files (subst (λ (some : List (Names × Content)). Stand files some tree) (take_all i files past) stand)
