-- The letters and the display text in front of a command, from the manual; which letters there are, and that both texts
-- are trimmed, is own.
use Rattle.std.specs.Prelude.{ℕ, ◌==◌, ◌||◌, Bool, false, if◌then◌else◌, List, [], ◌∷◌, codes, Option, Some, None}
use Rattle.std.specs.List.{list_all, list_any}
use Rattle.tup_lex.specs.Blank.{trim}
use Rattle.tup_vars.specs.Config.{around, behind}
use Rattle.tup_rule_line.specs.declared.caret.Command.{Command}

-- `o`, and the letters that have no effect: `b`, `c`, `j`, `s`
abbrev pub is_letter : ℕ → Bool
is_letter byte = byte == 111 || byte == 98 || byte == 99 || byte == 106 || byte == 115

-- a text that isn't empty
abbrev pub unless_empty : List ℕ → Option (List ℕ)
unless_empty [] = None
unless_empty (byte ∷ bytes) = Some (byte ∷ bytes)

-- what stands between two carets: letters up to the first space, and what is shown behind it
abbrev pub between_carets : List ℕ → List ℕ × List ℕ
between_carets text = elim (around 32 text) [ Some (letters, shown) ↦ (letters, shown) | None ↦ (text, []) ]

-- a command with letters, of which one compares its outputs, and what is shown in its place
abbrev pub lettered : List ℕ → List ℕ → List ℕ → Option Command
lettered letters shown command =
    if list_all is_letter letters
    then Some (record { text = trim command; display = unless_empty (trim shown); compare = list_any (λ byte. byte == 111) letters })
    else None

-- a command behind its first caret: there has to be a second one
abbrev pub behind_caret : List ℕ → Option Command
behind_caret text = elim (around 94 text) [
  | None ↦ None
  | Some (front, command) ↦ let parts = between_carets front in lettered parts.0 parts.1 command
]

-- a command with what stands in front of it
abbrev pub command_of : List ℕ → Option Command
command_of text = elim (behind (codes "^") text) [
  | Some rest ↦ behind_caret rest
  | None ↦ Some (record { text = text; display = None; compare = false })
]
