-- A scan on its way: the stamps so far are those of the files at the paths before those that are left. One file more.
use Rattle.std.proofs.Common.{◌≡◌, ◌++◌, ◌∷◌, [], ◌+◌, ◌≤◌, ◌∙◌, ℕ, List, None, Some, IsSome, is_some, ap, sym, subst, length, map, arith, append_assoc}
use Rattle.std.specs.Prelude.{option_map}
use Rattle.std.specs.FinMap as finite
use Rattle.std.proofs.lemmas.Bool.{true≢false}
use Rattle.std.proofs.lemmas.List.{length-append, map-append}
use Rattle.std.proofs.lemmas.List.Elements.{All-append, All-cons, All-head, All-nil}
use Rattle.tup_path.specs.Name.{Names}
use Rattle.tup_path.specs.Tree.{Tree}
use Rattle.tup_stamp.specs.declared.Stamp.{Stamp}
use Rattle.tup_stamp.specs.Stamp.{stamp}
use Rattle.tup_scan.specs.Seen.{AreFiles, AreStamped, IsStamped}
use Rattle.tup_scan_crew.specs.Batch.{digested}
use Rattle.tup_scan_crew.specs.declared.batch.File.{File}

-- its path is the next one
pub paths_more : (all left rest : List Names) (path : Names) (before after : List (Names × Stamp)) (file : File)
    → left ≡ path ∷ rest → file.path ≡ path → after ≡ before ++ digested file ∷ []
    → map (λ (f : Names × Stamp). f.0) before ++ left ≡ all → map (λ (f : Names × Stamp). f.0) after ++ rest ≡ all
paths_more all left rest path before after file first is adds so =
    let seen = map (λ (f : Names × Stamp). f.0) before in
    ap (λ (t : List (Names × Stamp)). map (λ (f : Names × Stamp). f.0) t ++ rest) adds
    ∙ ap (λ (t : List Names). t ++ rest) (map-append (λ (f : Names × Stamp). f.0) before (digested file ∷ []))
    ∙ append_assoc seen (file.path ∷ []) rest
    ∙ ap (λ (p : Names). seen ++ p ∷ rest) is
    ∙ ap (λ (t : List Names). seen ++ t) (sym first)
    ∙ so

-- its stamp is that of the file there
pub stamped_more : (tree : Tree) (path : Names) (before after : List (Names × Stamp)) (file : File)
    → file.path ≡ path → option_map stamp (finite.get tree path) ≡ Some (digested file).1 → after ≡ before ++ digested file ∷ []
    → AreStamped tree before → AreStamped tree after
stamped_more tree path before after file is found adds so =
    subst (AreStamped tree) (sym adds)
    (All-append (IsStamped tree) before (digested file ∷ []) so (All-cons (IsStamped tree) (digested file) [] one (All-nil (IsStamped tree))))
  where
    one : IsStamped tree (digested file)
    one = ap (λ (p : Names). option_map stamp (finite.get tree p)) is ∙ found

-- they are one more
pub few_more : (place : ℕ) (before after : List (Names × Stamp)) (file : File) → after ≡ before ++ digested file ∷ []
    → length before ≤ place → length after ≤ place + 1
few_more place before after file adds so = omega (arith, so, ap length adds, length-append before (digested file ∷ []))

-- where there is a file at each path, one is read at each
pub none_there : (tree : Tree) (left rest : List Names) (path : Names) → left ≡ path ∷ rest → AreFiles tree left → finite.get tree path ≡ None → ⊥
none_there tree left rest path first files none =
    true≢false (sym (All-head (λ (p : Names). IsSome (finite.get tree p)) path rest (subst (AreFiles tree) first files)) ∙ ap is_some none)
