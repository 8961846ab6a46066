-- The names of the project are visible, and spelled out digit by digit.
use Rattle.std.proofs.Common.{◌≡◌, ◌≢◌, ℕ, ◌+◌, ◌/◌, ◌%◌, ◌<◌, ◌≤◌, List, [], ◌∷◌, ◌++◌, length, All, codes, Some, slice_get, ap, subst, sym, arith}
use Rattle.std.specs.Prelude.{decimal}
use Rattle.std.proofs.lemmas.Fmt.{decimal_digit}
use Rattle.std.proofs.lemmas.List.Elements.{All-from_recursion, All-weaker}
use Rattle.std.proofs.lemmas.Str.{IsUtf8-from_ascii}
use Rattle.std.proofs.lemmas.Str.Ascii.{IsAscii-from_all}
use Rattle.tup_path.specs.Name.{IsNameByte, IsVisibleName}
use Rattle.tup_large.specs.Project.{folder_name}

-- ---- digit by digit

-- the name of a header, and that of a source, by their first and their last byte
pub header_is : (number : ℕ) → number < 10 → codes "h" ++ (decimal number ++ codes ".h") ≡ 104 ∷ (48 + number) ∷ 46 ∷ 104 ∷ []
header_is number small = ap (λ (digits : List ℕ). codes "h" ++ (digits ++ codes ".h")) (decimal_digit number small)

pub source_is : (number : ℕ) → number < 10 → codes "s" ++ (decimal number ++ codes ".c") ≡ 115 ∷ (48 + number) ∷ 46 ∷ 99 ∷ []
source_is number small = ap (λ (digits : List ℕ). codes "s" ++ (digits ++ codes ".c")) (decimal_digit number small)

pub folder_is : (number : ℕ) → number < 10000 → folder_name number ≡ 100 ∷ (48 + number / 1000) ∷ (48 + number / 100 % 10) ∷ (48 + number / 10 % 10) ∷ (48 + number % 10) ∷ []
folder_is number small =
    let thousands = decimal_digit (number / 1000) (omega arith) in
    let hundreds = decimal_digit (number / 100 % 10) (omega arith) in
    let tens = decimal_digit (number / 10 % 10) (omega arith) in
    let ones = decimal_digit (number % 10) (omega arith) in
    λ i. codes "d" ++ (thousands i ++ (hundreds i ++ (tens i ++ ones i)))

-- ---- visible

-- a byte of the names: a letter, a digit or a dot
abbrev IsPlain : ℕ → Type 0
IsPlain byte = (46 ≤ byte) × (byte ≤ 122) × (byte ≢ 47)

-- a short name of such bytes is visible, where the first is no dot
plain_visible : (name : List ℕ) → All IsPlain name → 1 ≤ length name → length name ≤ 255 → slice_get name 0 ≢ Some 46 → IsVisibleName name
plain_visible name plain some short first = record {
  text = IsUtf8-from_ascii name (IsAscii-from_all name (All-weaker IsPlain (λ byte. byte < 128) (λ byte is. omega (arith, is)) name plain));
  not_empty = some;
  not_long = short;
  not_hidden = first;
  bytes = All-weaker IsPlain IsNameByte (λ byte is. omega (arith, is)) name plain;
}

pub tupfile_visible : IsVisibleName (codes "Tupfile")
tupfile_visible = plain_visible (codes "Tupfile") (All-from_recursion IsPlain (codes "Tupfile") (omega arith)) (omega arith) (omega arith) (λ e. cc)

pub inc_visible : IsVisibleName (codes "inc")
inc_visible = plain_visible (codes "inc") (All-from_recursion IsPlain (codes "inc") (omega arith)) (omega arith) (omega arith) (λ e. cc)

pub header_visible : (number : ℕ) → number < 10 → IsVisibleName (codes "h" ++ (decimal number ++ codes ".h"))
header_visible number small =
    let name : List ℕ = 104 ∷ (48 + number) ∷ 46 ∷ 104 ∷ [] in
    subst IsVisibleName (sym (header_is number small)) (plain_visible name (All-from_recursion IsPlain name (omega arith)) (omega arith) (omega arith) (λ e. cc))

pub source_visible : (number : ℕ) → number < 10 → IsVisibleName (codes "s" ++ (decimal number ++ codes ".c"))
source_visible number small =
    let name : List ℕ = 115 ∷ (48 + number) ∷ 46 ∷ 99 ∷ [] in
    subst IsVisibleName (sym (source_is number small)) (plain_visible name (All-from_recursion IsPlain name (omega arith)) (omega arith) (omega arith) (λ e. cc))

pub folder_visible : (number : ℕ) → number < 10000 → IsVisibleName (folder_name number)
folder_visible number small =
    let name : List ℕ = 100 ∷ (48 + number / 1000) ∷ (48 + number / 100 % 10) ∷ (48 + number / 10 % 10) ∷ (48 + number % 10) ∷ [] in
    subst IsVisibleName (sym (folder_is number small)) (plain_visible name (All-from_recursion IsPlain name (omega arith)) (omega arith) (omega arith) (λ e. cc))
