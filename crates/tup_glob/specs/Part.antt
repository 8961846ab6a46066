-- The part of a name that the first operator of a glob takes; of a run the shortest that lets the rest match (own).
use Rattle.std.specs.Prelude.{ℕ, ◌-◌, if◌then◌else◌, List, [], ◌∷◌, length, drop, Option, Some, None}
use Rattle.std.specs.Option.{option_map}
use Rattle.std.specs.Str.{chars, encode_utf8_all}
use Rattle.tup_lex.specs.declared.span.Span.{Span}
use Rattle.tup_lex.specs.Word.{span}
use Rattle.tup_glob.specs.declared.symbol.Symbol.{Symbol}
use Rattle.tup_glob.specs.declared.symbol.Symbol.TheVariants.{Char, Run}
use Rattle.tup_glob.specs.Match.{first_rest, matches}

-- what stands from the first operator's part on, and what stands behind that part; the symbols before the operator aren't looked at
abbrev pub ends_of : List Symbol → List ℕ → Option (List ℕ × List ℕ)
ends_of [] name = None
ends_of (Char _ ∷ more) name = ends_of more (drop 1 name)
ends_of (Run ∷ more) name = option_map (λ rest. (name, rest)) (first_rest (matches more) name)
ends_of (_ ∷ _) name = Some (name, drop 1 name)

-- the same in a name that the symbols match
abbrev pub part_of : List Symbol → List ℕ → Option (List ℕ × List ℕ)
part_of symbols name = if matches symbols name then ends_of symbols name else None

-- the place in a text of so many bytes at which the last of its characters begin
abbrev pub place : ℕ → List ℕ → ℕ
place bytes rest = bytes - length (encode_utf8_all rest)

-- where that part stands in the bytes of a name
abbrev pub matched_part : List Symbol → List ℕ → Option Span
matched_part symbols name =
    option_map (λ part. span (place (length name) part.0) (place (length name) part.1)) (part_of symbols (chars name))
