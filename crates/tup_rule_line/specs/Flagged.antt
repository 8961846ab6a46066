-- A text with its percent flags put in (own, where it says what a refusal is called).
use Rattle.std.specs.Prelude.{ℕ, false, List, [], ◌∷◌, ◌++◌, None}
use Rattle.tup_path.specs.Name.{Names}
use Rattle.tup_lex.specs.declared.kind.ParseKind.{ParseKind}
use Rattle.tup_lex.specs.declared.kind.ParseKind.TheVariants.{LineTooLong, UnknownFlag, FlagNotHere}
use Rattle.tup_rule.specs.declared.draft.Piece.{Piece}
use Rattle.tup_rule.specs.declared.draft.Piece.TheVariants.{Text, Group}
use Rattle.tup_flags.specs.declared.fault.FlagFault.{FlagFault}
use Rattle.tup_flags.specs.declared.fault.FlagFault.TheVariants as fault
use Rattle.tup_flags.specs.declared.parts.FlagParts.{FlagParts}
use Rattle.tup_flags.specs.declared.parts.Place.TheVariants as place
use Rattle.tup_flags.specs.Expansion.{expand}
use Rattle.tup_query.specs.declared.fault.ParseFault.{ParseFault}
use Rattle.tup_query.specs.Reads.{Reads, gives, and_then}
use Rattle.tup_query.specs.Spot.{Spot}
use Rattle.tup_query.specs.Text.{taken}

-- what a refusal of percent flags is called
abbrev pub flag_kind : FlagFault → ParseKind
flag_kind fault.UnknownFlag = UnknownFlag
flag_kind fault.FlagNotHere = FlagNotHere
flag_kind _ = LineTooLong

-- the flags of an input word have no meaning but that of a percent sign
abbrev pub bare_parts : Names → FlagParts
bare_parts dir = record { dir = dir; inputs = []; order = []; outputs = []; foreach = false; glob = None; groups = []; place = place.Inputs }

-- the text of pieces without a group
abbrev pub text_of : List Piece → List ℕ
text_of [] = []
text_of (Text text ∷ more) = text ++ text_of more
text_of (Group at ∷ more) = text_of more

-- a text with its percent flags put in
abbrev pub flagged : Spot → FlagParts → List ℕ → Reads ParseFault (List Piece)
flagged at parts text = taken at flag_kind (expand parts text)

-- the same where it is one text
unfoldable pub flagged_text : Spot → FlagParts → List ℕ → Reads ParseFault (List ℕ)
flagged_text at parts text = and_then (flagged at parts text) (λ pieces. gives (text_of pieces))
