-- Values of the parts of a text, one behind the other, and the pieces that they make (own).
-- The text of a flag is joined with its neighbours into one piece, and an empty text is no piece.
use Rattle.std.specs.Prelude.{ℕ, ◌+◌, nat_lt, if◌then◌else◌, List, [], ◌∷◌, ◌++◌, length, Option, Some, None, Result, Ok, Err}
use Rattle.tup_rule.specs.declared.draft.Piece.{Piece}
use Rattle.tup_rule.specs.declared.draft.Piece.TheVariants.{Text, Group}
use Rattle.tup_flags.specs.declared.fault.FlagFault.{FlagFault}
use Rattle.tup_flags.specs.declared.fault.FlagFault.TheVariants.{TooLong}

-- how many bytes the texts of an expansion may have together
abbrev pub text_limit : ℕ
text_limit = 1048576

-- how many bytes of text a piece has; a group counts nothing
abbrev pub size : Piece → ℕ
size (Text text) = length text
size (Group _) = 0

-- and how many some pieces have together
abbrev pub total : List Piece → ℕ
total [] = 0
total (piece ∷ more) = size piece + total more

-- a text joined with the text that pieces begin with; the empty text is no piece
abbrev pub onto : List ℕ → List Piece → List Piece
onto [] pieces = pieces
onto (byte ∷ text) [] = Text (byte ∷ text) ∷ []
onto (byte ∷ text) (Text next ∷ more) = Text ((byte ∷ text) ++ next) ∷ more
onto (byte ∷ text) (Group at ∷ more) = Text (byte ∷ text) ∷ Group at ∷ more

-- pieces with all texts joined that stand side by side
abbrev pub joined : List Piece → List Piece
joined [] = []
joined (Text text ∷ more) = onto text (joined more)
joined (Group at ∷ more) = Group at ∷ joined more

-- the pieces before the first refusal
abbrev pub granted : List (Result Piece FlagFault) → List Piece
granted [] = []
granted (Ok piece ∷ more) = piece ∷ granted more
granted (Err _ ∷ _) = []

-- the first refusal
abbrev pub refusal : List (Result Piece FlagFault) → Option FlagFault
refusal [] = None
refusal (Ok _ ∷ more) = refusal more
refusal (Err fault ∷ _) = Some fault

-- pieces, where nothing is refused
abbrev pub unless_refused : List Piece → Option FlagFault → Result (List Piece) FlagFault
unless_refused pieces None = Ok pieces
unless_refused pieces (Some fault) = Err fault

-- what values come to: they are too long if what stands before the first refusal is
abbrev pub outcome : List (Result Piece FlagFault) → Result (List Piece) FlagFault
outcome values = if nat_lt text_limit (total (granted values)) then Err TooLong else unless_refused (joined (granted values)) (refusal values)

-- what values come to behind pieces and a text that goes on, where there is room for so many bytes
abbrev pub onward : List Piece → List ℕ → ℕ → List (Result Piece FlagFault) → Result (List Piece) FlagFault
onward pieces text room values =
    if nat_lt room (total (granted values)) then Err TooLong else unless_refused (pieces ++ onto text (joined (granted values))) (refusal values)
