-- The words of a small command (own): its text is cut at blanks, and a blank beside another makes no word. What an arrow
-- before the last of them parts, and the number that a word names.
-- An arrow in another place comes before everything else: `nope > a b` and `nope >` end with 2, `nope > a` is unknown
-- and ends with 127.
use Rattle.std.specs.Prelude.{ℕ, Bool, true, false, not, ◌&&◌, ◌||◌, ◌==◌, ◌+◌, ◌*◌, ◌-◌, nat_le, nat_lt, if◌then◌else◌, List, [], ◌∷◌, length, filter, Option, None, Some, option_map, bytes_eq}
use Rattle.std.specs.List.{slice_split, list_all}

-- whether a text between two blanks is a word: it isn't empty
abbrev pub is_word : List ℕ → Bool
is_word [] = false
is_word (b ∷ bs) = true

-- the words of a command
abbrev pub words : List ℕ → List (List ℕ)
words text = filter is_word (slice_split (λ b. b == 32) text)

-- the word `>`
abbrev pub is_arrow : List ℕ → Bool
is_arrow word = bytes_eq word (62 ∷ [])

-- whether an arrow stands anywhere but as the last word but one
abbrev pub has_stray_arrow : List (List ℕ) → Bool
has_stray_arrow [] = false
has_stray_arrow (word ∷ more) = (is_arrow word && not (length more == 1)) || has_stray_arrow more

-- words, an arrow and one more word, as the words before and the one behind
abbrev pub redirected : List (List ℕ) → Option (List (List ℕ) × List ℕ)
redirected [] = None
redirected (word ∷ []) = None
redirected (word ∷ to ∷ []) = if is_arrow word then Some ([], to) else None
redirected (word ∷ next ∷ more ∷ rest) = option_map (λ (p : List (List ℕ) × List ℕ). (word ∷ p.0, p.1)) (redirected (next ∷ more ∷ rest))

-- whether a byte is a decimal digit
abbrev pub is_digit : ℕ → Bool
is_digit b = nat_le 48 b && nat_le b 57

-- the number that decimal digits stand for, behind the digits of a front
abbrev pub decimal_value : ℕ → List ℕ → ℕ
decimal_value front [] = front
decimal_value front (d ∷ digits) = decimal_value (front * 10 + (d - 48)) digits

-- the status that a word names: 1 to 255 in decimal without a leading zero, else 2
abbrev pub status_of : List ℕ → ℕ
status_of [] = 2
status_of (d ∷ digits) =
    if list_all is_digit (d ∷ digits) && nat_lt 48 d && nat_lt (decimal_value 0 (d ∷ digits)) 256
    then decimal_value 0 (d ∷ digits)
    else 2
