-- The symbols of a pattern (from the manual; a `]` or a `-` that stands for itself, and ranges that run backwards, are own).
use Rattle.std.specs.Prelude.{ℕ, zero, suc, ◌≡◌, ◌+◌, Bool, true, false, ◌==◌, if◌then◌else◌, List, [], ◌∷◌, ◌++◌, take, drop, Option, Some, None, Result, Ok, Err}
use Rattle.std.specs.List.{position_from}
use Rattle.std.specs.Option.{option_map}
use Rattle.std.specs.Str.{chars}
use Rattle.tup_lex.specs.Word.{begins_with}
use Rattle.tup_glob.specs.declared.fault.GlobFault.{GlobFault}
use Rattle.tup_glob.specs.declared.fault.GlobFault.TheVariants.{OpenBracket}
use Rattle.tup_glob.specs.declared.symbol.Symbol.{Symbol}
use Rattle.tup_glob.specs.declared.symbol.Symbol.TheVariants.{Char, Run, One, Set}
use Rattle.tup_glob.specs.declared.symbol.Range.{Range}

-- the characters from one up to another
abbrev pub range : ℕ → ℕ → Range
range first last = record { first = first; last = last }

-- the members that the text of a set names: a `-` between two characters makes a range of them, elsewhere it is itself
abbrev pub members : List ℕ → List Range
members [] = []
members (first ∷ []) = range first first ∷ []
members (first ∷ last ∷ []) = range first first ∷ range last last ∷ []
members (first ∷ dash ∷ last ∷ more) =
    if dash == 45 then range first last ∷ members more else range first first ∷ members (dash ∷ last ∷ more)

-- how many characters a set has before the `]` that closes it, which is the first that isn't its first character
abbrev pub inner_len : List ℕ → Option ℕ
inner_len [] = None
inner_len (_ ∷ more) = position_from (λ char. char == 93) 1 more

-- a set by what stands behind its `[` and its `^`, and how many characters that takes
abbrev pub set_of : Bool → List ℕ → Option (Symbol × ℕ)
set_of negated text = option_map (λ n. (Set negated (members (take n text)), n + 1)) (inner_len text)

-- a symbol that takes one more character than it would
abbrev pub longer : Option (Symbol × ℕ) → Option (Symbol × ℕ)
longer found = option_map (λ symbol. (symbol.0, symbol.1 + 1)) found

-- the set whose `[` comes before a text, and how many characters of the text belong to it
abbrev pub set_behind : List ℕ → Option (Symbol × ℕ)
set_behind text = if begins_with 94 text then longer (set_of true (drop 1 text)) else set_of false text

-- the symbol that a character begins, and how many of the characters behind it belong to it
abbrev pub symbol_of : ℕ → List ℕ → Option (Symbol × ℕ)
symbol_of char more =
    if char == 42 then Some (Run, 0)
    else if char == 63 then Some (One, 0)
    else if char == 91 then set_behind more
    else Some (Char char, 0)

-- the symbol and the number of its characters are found for a text that goes on like this behind them
abbrev pub Leaves : Option (Symbol × ℕ) → List ℕ → Symbol → List ℕ → Type 0
Leaves found text symbol behind = (n : ℕ) × (found ≡ Some (symbol, n)) × (behind ≡ drop n text)

-- symbols with those that a text behind them has, if it has any
abbrev pub onto : List Symbol → Result (List Symbol) GlobFault → Result (List Symbol) GlobFault
onto front (Ok symbols) = Ok (front ++ symbols)
onto _ (Err fault) = Err fault

-- the symbols of a text of which so many characters belong to a symbol before
abbrev pub symbols_behind : ℕ → List ℕ → Result (List Symbol) GlobFault
symbols_behind _ [] = Ok []
symbols_behind (suc n) (_ ∷ more) = symbols_behind n more
symbols_behind zero (char ∷ more) = elim (symbol_of char more) [
  | Some (symbol, n) ↦ onto (symbol ∷ []) (symbols_behind n more)
  | None ↦ Err OpenBracket
]

-- the symbols of a pattern
abbrev pub symbols_of : List ℕ → Result (List Symbol) GlobFault
symbols_of pattern = symbols_behind 0 (chars pattern)
