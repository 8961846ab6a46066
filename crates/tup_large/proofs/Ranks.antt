-- No path of the project stands twice: each has a rank, and from path to path the ranks rise.
use Rattle.std.proofs.Common.{◌≡◌, ◌≢◌, ℕ, zero, suc, ◌+◌, ◌*◌, ◌/◌, ◌%◌, ◌<◌, ◌≤◌, List, [], ◌∷◌, ◌++◌, length, slice_index_or, codes, add-one, sym, ap, subst, ◌∙◌, arith}
use Rattle.std.specs.List.{AllPairs}
use Rattle.std.specs.Map.{keys_of}
use Rattle.std.proofs.lemmas.List.{map-append}
use Rattle.tup_path.specs.Name.{Names, Content}
use Rattle.tup_large.specs.Project.{each, header, headers, folder_name, source, sources, files_in, all_folders, large_files}
use Rattle.tup_large.proofs.Names.{header_is, source_is, folder_is}

-- ---- the rank of a path

-- of a file in its folder: the digit of a header or a source
abbrev file_rank : List ℕ → ℕ
file_rank (first ∷ digit ∷ dot ∷ last ∷ []) = digit
file_rank other = 0

-- of a folder: its digits
abbrev folder_rank : List ℕ → ℕ
folder_rank (first ∷ thousands ∷ hundreds ∷ tens ∷ ones ∷ []) = 58 * (1000 * thousands + 100 * hundreds + 10 * tens + ones)
folder_rank other = 0

abbrev rank : Names → ℕ
rank (folder ∷ name ∷ []) = folder_rank folder + file_rank name
rank other = 0

-- from the least on, below the most, the ranks of these paths rise
abbrev Rising : ℕ → ℕ → List Names → Type 0
Rising least most [] = least ≤ most
Rising least most (path ∷ paths) = (least ≤ rank path) × Rising (rank path + 1) most paths

lower : (least less most : ℕ) (paths : List Names) → less ≤ least → Rising least most paths → Rising less most paths
lower least less most [] below rising = omega (arith, below, rising)
lower least less most (path ∷ paths) below (first, rising) = (omega (arith, below, first), rising)

behind : (least mid most : ℕ) (paths more : List Names) → Rising least mid paths → Rising mid most more → Rising least most (paths ++ more)
behind least mid most [] more rising then = lower mid least most more rising then
behind least mid most (path ∷ paths) more (first, rising) then = (first, behind (rank path + 1) mid most paths more rising then)

from_least : (least most : ℕ) (paths : List Names) (k : ℕ) (d : Names) → Rising least most paths → k < length paths → least ≤ rank (slice_index_or paths k d)
from_least least most [] k d rising within = absurd (omega (arith, within))
from_least least most (path ∷ paths) zero d (first, rising) within = first
from_least least most (path ∷ paths) (suc k) d (first, rising) within =
    let later = from_least (rank path + 1) most paths k d rising (omega (arith, within)) in
    omega (arith, first, later)

-- paths whose ranks rise differ
apart : (least most : ℕ) (paths : List Names) → Rising least most paths → AllPairs (λ a b. a ≢ b) paths
apart least most [] rising i j d before within = absurd (omega (arith, within))
apart least most (path ∷ paths) (first, rising) i zero d before within = absurd (omega (arith, before))
apart least most (path ∷ paths) (first, rising) zero (suc j) d before within = λ same.
    let later = from_least (rank path + 1) most paths j d rising (omega (arith, within)) in
    let ranks = ap rank same in
    omega (arith, later, ranks)
apart least most (path ∷ paths) (first, rising) (suc i) (suc j) d before within = apart (rank path + 1) most paths rising i j d (omega (arith, before)) (omega (arith, within))

-- ---- lists of files

abbrev Listed : Type 0
Listed = List (Names × Content)

joined : (least mid most : ℕ) (files more : Listed) → Rising least mid (keys_of files) → Rising mid most (keys_of more) → Rising least most (keys_of (files ++ more))
joined least mid most files more rising then =
    subst (Rising least most) (sym (map-append (λ (file : Names × Content). file.0) files more)) (behind least mid most (keys_of files) (keys_of more) rising then)

-- where those of each number rise from one bound to the next
each_rises : (bound : ℕ → ℕ) (gives : ℕ → Listed) (n : ℕ) → ((k : ℕ) → k < n → Rising (bound k) (bound (k + 1)) (keys_of (gives k))) → Rising (bound 0) (bound n) (keys_of (each gives n))
each_rises bound gives zero rises = omega arith
each_rises bound gives (suc n) rises =
    joined (bound 0) (bound n) (bound (suc n)) (each gives n) (gives n) (each_rises bound gives n (λ k below. rises k (omega (arith, below))))
    (subst (λ (m : ℕ). Rising (bound n) (bound m) (keys_of (gives n))) (add-one n) (rises n (omega arith)))

-- ---- the files of the project

header_rank : (number : ℕ) → number < 10 → rank (header number).0 ≡ 48 + number
header_rank number small = ap (λ (name : List ℕ). rank (codes "inc" ∷ name ∷ [])) (header_is number small) ∙ unary
  where
    unary : 0 + (48 + number) ≡ 48 + number
    unary = omega arith

headers_rise : Rising 48 58 (keys_of headers)
headers_rise = each_rises (λ k. 48 + k) (λ number. header number ∷ []) 10 (λ k below. let is = header_rank k below in (omega (arith, is), omega (arith, is)))

module _ (folder : List ℕ) where
  source_rank : (number : ℕ) → number < 10 → rank (source folder number).0 ≡ folder_rank folder + (48 + number)
  source_rank number small = ap (λ (name : List ℕ). rank (folder ∷ name ∷ [])) (source_is number small)

  sources_rise : Rising (folder_rank folder + 48) (folder_rank folder + 58) (keys_of (sources folder))
  sources_rise = each_rises (λ k. folder_rank folder + (48 + k)) (λ number. source folder number ∷ []) 10 (λ k below. let is = source_rank k below in (omega (arith, is), omega (arith, is)))

  files_rise : Rising (folder_rank folder) (folder_rank folder + 58) (keys_of (files_in folder))
  files_rise = (omega arith, lower (folder_rank folder + 48) _ (folder_rank folder + 58) (keys_of (sources folder)) (omega arith) sources_rise)

number_rank : (number : ℕ) → number < 10000 → folder_rank (folder_name number) ≡ 58 * (53328 + number)
number_rank number small = ap folder_rank (folder_is number small) ∙ digits
  where
    digits : 58 * (1000 * (48 + number / 1000) + 100 * (48 + number / 100 % 10) + 10 * (48 + number / 10 % 10) + (48 + number % 10)) ≡ 58 * (53328 + number)
    digits = omega arith

folders_rise : (folders : ℕ) → folders ≤ 10000 → Rising (58 * 53328) (58 * (53328 + folders)) (keys_of (all_folders folders))
folders_rise folders few = each_rises (λ k. 58 * (53328 + k)) (λ number. files_in (folder_name number)) folders (λ k below.
    let is = number_rank k (omega (arith, few, below)) in
    let next : folder_rank (folder_name k) + 58 ≡ 58 * (53328 + (k + 1)) = omega (arith, is) in
    subst (λ (least : ℕ). Rising least (58 * (53328 + (k + 1))) (keys_of (files_in (folder_name k)))) is
    (subst (λ (most : ℕ). Rising (folder_rank (folder_name k)) most (keys_of (files_in (folder_name k)))) next (files_rise (folder_name k))))

all_rise : (folders : ℕ) → folders ≤ 10000 → Rising 0 (58 * (53328 + folders)) (keys_of (large_files folders))
all_rise folders few = (
  omega arith,
  joined 1 58 (58 * (53328 + folders)) headers (all_folders folders) (lower 48 1 58 (keys_of headers) (omega arith) headers_rise)
      (lower (58 * 53328) 58 (58 * (53328 + folders)) (keys_of (all_folders folders)) (omega arith) (folders_rise folders few)),
)

pub once : (folders : ℕ) → folders ≤ 10000 → AllPairs (λ a b. a ≢ b) (keys_of (large_files folders))
once folders few = apart 0 (58 * (53328 + folders)) (keys_of (large_files folders)) (all_rise folders few)
