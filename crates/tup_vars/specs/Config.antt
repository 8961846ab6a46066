-- What tup.config sets. The two forms of a line are the manual's; the rest is own.
-- Lines that are too long are looked for before any line is read. A `#` line whose name isn't a name is a comment.
use Rattle.std.specs.Prelude.{◌≡◌, ℕ, nat_lt, IsTrue, Bool, ◌&&◌, ◌==◌, if◌then◌else◌, List, [], ◌∷◌, ◌++◌, length, position, fold, codes, bytes_eq, Option, None, Some, is_none, option_and_then, Result, Ok, Err}
use Rattle.std.specs.List.{filter_map, position_or_len, before_first, after_first}
use Rattle.std.specs.Str.{is_utf8}
use Rattle.std.specs.Str.Lines.{lines as cut_lines}
use Rattle.tup_lex.specs.Blank.{trim}
use Rattle.tup_lex.specs.Line.{line_number, wrong_line, is_long, says_something}
use Rattle.tup_lex.specs.declared.kind.ParseKind.TheVariants.{NotUtf8, LineTooLong, ConfigLine}
use Rattle.tup_vars.specs.Name.{is_name}
use Rattle.tup_vars.specs.Table.{Entries, put}
use Rattle.tup_vars.specs.declared.fault.ConfigFault.{ConfigFault}
use Rattle.tup_vars.specs.declared.fault.ConfigFault.TheVariants.{At}

-- what stands behind a front of a text
abbrev pub behind : List ℕ → List ℕ → Option (List ℕ)
behind [] text = Some text
behind (byte ∷ front) [] = None
behind (byte ∷ front) (first ∷ text) = if first == byte then behind front text else None

-- what stands before the first such byte of a text, and behind it
abbrev pub around : ℕ → List ℕ → Option (List ℕ × List ℕ)
around byte text =
    if nat_lt (position_or_len (λ b. b == byte) text) (length text)
    then Some (before_first (λ b. b == byte) text, after_first (λ b. b == byte) text)
    else None

-- a name with its value, if it is one
abbrev pub entry : List ℕ → List ℕ → Option (List ℕ × List ℕ)
entry name value = if is_name name then Some (name, value) else None

-- what a line `CONFIG_NAME=value` sets
abbrev pub set : List ℕ → Option (List ℕ × List ℕ)
set line = option_and_then (λ rest. option_and_then (λ (name, value). entry name (trim value)) (around 61 rest)) (behind (codes "CONFIG_") line)

-- what a line `# CONFIG_NAME is not set` sets: just the text `n`
abbrev pub unset : List ℕ → Option (List ℕ × List ℕ)
unset line = option_and_then
    (λ rest. option_and_then (λ (name, said). if bytes_eq said (codes "is not set") then entry name (codes "n") else None) (around 32 rest))
    (behind (codes "# CONFIG_") line)

-- what a line sets, without the blanks at its ends
abbrev pub setting : List ℕ → Option (List ℕ × List ℕ)
setting line = elim (set (trim line)) [ Some one ↦ Some one | None ↦ unset (trim line) ]

-- whether a line may not stand there: it sets nothing, isn't empty and is no comment
abbrev pub is_wrong : List ℕ → Bool
is_wrong line = is_none (setting line) && says_something (trim line)

-- a line that is `CONFIG_NAME=` and a value, which is trimmed
abbrev pub IsSet : List ℕ → List ℕ → List ℕ → Type 0
IsSet line name value = (rest : List ℕ) × (line ≡ codes "CONFIG_" ++ (name ++ 61 ∷ rest)) × IsTrue (is_name name) × (value ≡ trim rest)

-- a line that is `# CONFIG_NAME is not set`, which sets the text `n`
abbrev pub IsUnset : List ℕ → List ℕ → List ℕ → Type 0
IsUnset line name value = (line ≡ codes "# CONFIG_" ++ (name ++ codes " is not set")) × IsTrue (is_name name) × (value ≡ codes "n")

-- the value of the last of some entries that have this name
abbrev pub last_of : List (List ℕ × List ℕ) → List ℕ → Option (List ℕ)
last_of [] name = None
last_of ((key, value) ∷ more) name = elim (last_of more name) [ Some later ↦ Some later | None ↦ if bytes_eq name key then Some value else None ]

-- names set one after another
abbrev pub set_all : Entries → List (List ℕ × List ℕ) → Entries
set_all entries all = fold (λ done (name, value). put done name value) entries all

-- a table with what the line of this number sets, if it may stand there
abbrev pub with_line : Entries → ℕ → List ℕ → Result Entries ConfigFault
with_line table number line = elim (setting line) [
  | Some (name, value) ↦ Ok (put table name value)
  | None ↦ if says_something (trim line) then Err (At number ConfigLine) else Ok table
]

-- what lines set of which none is too long: the first that may not stand there is refused
abbrev pub short_settings : List (List ℕ) → Result Entries ConfigFault
short_settings lines = elim (position is_wrong lines) [
  | Some place ↦ Err (At (line_number place) ConfigLine)
  | None ↦ Ok (set_all [] (filter_map setting lines))
]

-- what lines set: the first that is too long is refused before all else
abbrev pub settings : List (List ℕ) → Result Entries ConfigFault
settings lines = elim (position is_long lines) [
  | Some place ↦ Err (At (line_number place) LineTooLong)
  | None ↦ short_settings lines
]

-- what a file sets
abbrev pub config_of : List ℕ → Result Entries ConfigFault
config_of file = if is_utf8 file then settings (cut_lines file) else Err (At (wrong_line file) NotUtf8)
