-- The words after `large`: how many folders the project has (own).
use Rattle.std.specs.Prelude.{◌+◌, ◌-◌, ◌*◌, ◌==◌, ◌&&◌, nat_le, ℕ, Bool, if◌then◌else◌, List, [], ◌∷◌, Option, None, Some, Result, Ok, Err}
use Rattle.tup_top.specs.declared.order.Word.{Word}

-- whether a byte is a digit, and no zero
abbrev pub begins : ℕ → Bool
begins byte = nat_le 49 byte && nat_le byte 57

-- whether a byte is a digit
abbrev pub is_digit : ℕ → Bool
is_digit byte = nat_le 48 byte && nat_le byte 57

-- the number from 1 to 1,000 that a text has in digits, of which the first is no zero
abbrev pub number_in : List ℕ → Option ℕ
number_in [] = None
number_in (ones ∷ []) = if begins ones then Some (ones - 48) else None
number_in (tens ∷ ones ∷ []) = if begins tens && is_digit ones then Some (10 * (tens - 48) + (ones - 48)) else None
number_in (hundreds ∷ tens ∷ ones ∷ []) = if begins hundreds && (is_digit tens && is_digit ones) then Some (100 * (hundreds - 48) + 10 * (tens - 48) + (ones - 48)) else None
number_in (one ∷ hundreds ∷ tens ∷ ones ∷ []) = if (one == 49) && ((hundreds == 48) && ((tens == 48) && (ones == 48))) then Some 1000 else None
number_in (one ∷ two ∷ three ∷ four ∷ five ∷ rest) = None

-- The number of folders that these words ask for, or the place of the first that can't stand, counted from 1, which is that of
-- `large`. A word that is missing has the place after the last.
abbrev pub folders_in : List Word → Result ℕ ℕ
folders_in [] = Err 2
folders_in (word ∷ words) = elim (number_in word.0) [
  | None ↦ Err 2
  | Some folders ↦ elim words [ [] ↦ Ok folders | more ∷ rest ↦ Err 3 ]
]
