-- What each flag is and where it may stand, from the manual; the places of `%g` and `%O`, and those past the manual's, are own.
-- With `foreach` the current file is the one input. A flag over no files is the empty text. `%O` cuts the shown path
-- at its last dot, if no slash follows. `%<name>` is the first group of that name in whatever folder, up to the first
-- `>`.
use Rattle.std.specs.Prelude.{ℕ, ◌==◌, nat_lt, Bool, true, false, not, ◌&&◌, ◌||◌, if◌then◌else◌, List, [], ◌∷◌, length, codes, bytes_eq, Option, Some, None, unwrap_or, is_some, option_and_then, position, Result, Ok, Err}
use Rattle.tup_rule.specs.declared.draft.Piece.{Piece}
use Rattle.tup_rule.specs.declared.draft.Piece.TheVariants.{Text, Group}
use Rattle.tup_rule.specs.declared.draft.GroupRef.{GroupRef}
use Rattle.tup_flags.specs.declared.fault.FlagFault.{FlagFault}
use Rattle.tup_flags.specs.declared.fault.FlagFault.TheVariants.{UnknownFlag, FlagNotHere}
use Rattle.tup_flags.specs.declared.flag.Flag.{Flag}
use Rattle.tup_flags.specs.declared.flag.Flag.TheVariants.{Percent, Inputs, Names, Stems, Extension, Outputs, Trunk, Folder, Glob, Order}
use Rattle.tup_flags.specs.declared.parts.FlagParts.{FlagParts}
use Rattle.tup_flags.specs.declared.parts.Place.{Place}
use Rattle.tup_flags.specs.declared.parts.Place.TheVariants as place
use Rattle.tup_flags.specs.declared.shown.Side.TheVariants as side
use Rattle.tup_flags.specs.Part.{Part, Byte, Flagged, Named, Unknown}
use Rattle.tup_flags.specs.Shown.{last_name, listed}

-- whether a place is among the inputs
abbrev pub among_inputs : Place → Bool
among_inputs place.Inputs = true
among_inputs place.Command = false
among_inputs place.Outputs = false
among_inputs place.Extra = false

-- whether it is in the command
abbrev pub in_command : Place → Bool
in_command place.Inputs = false
in_command place.Command = true
in_command place.Outputs = false
in_command place.Extra = false

-- whether it is among the extra outputs
abbrev pub among_extra : Place → Bool
among_extra place.Inputs = false
among_extra place.Command = false
among_extra place.Outputs = false
among_extra place.Extra = true

-- in the command, or among the outputs or extra outputs
abbrev pub behind_inputs : FlagParts → Bool
behind_inputs given = not (among_inputs given.place)

-- whether a flag may stand where a text does
abbrev pub stands : FlagParts → Flag → Bool
stands given Percent = true
stands given Inputs = behind_inputs given
stands given Names = behind_inputs given
stands given Stems = behind_inputs given
stands given Extension = behind_inputs given && given.foreach
stands given Outputs = in_command given.place
stands given Trunk = among_extra given.place && length given.outputs == 1
stands given Folder = behind_inputs given && nat_lt 0 (length given.dir)
stands given Glob = behind_inputs given && is_some given.glob && (given.foreach || length given.inputs == 1)
stands given Order = in_command given.place

-- what the first operator of the glob matched
abbrev pub glob_text : FlagParts → List ℕ
glob_text given = unwrap_or given.glob []

-- what a flag stands for, where it may stand
abbrev pub meaning : FlagParts → Flag → List ℕ
meaning given Percent = codes "%"
meaning given Inputs = listed given.dir side.Way given.inputs
meaning given Names = listed given.dir side.Name given.inputs
meaning given Stems = listed given.dir side.Stem given.inputs
meaning given Extension = listed given.dir side.Extension given.inputs
meaning given Outputs = listed given.dir side.Way given.outputs
meaning given Trunk = listed given.dir side.Trunk given.outputs
meaning given Folder = last_name given.dir
meaning given Glob = glob_text given
meaning given Order = listed given.dir side.Way given.order

-- the place of the first group of this name, in whatever folder
abbrev pub first_named : List GroupRef → List ℕ → Option ℕ
first_named groups name = position (λ (group : GroupRef). bytes_eq group.name name) groups

-- a place that a `u32` counts
abbrev pub small : ℕ → Option ℕ
small at = if nat_lt at 4294967296 then Some at else None

-- the place of the group of this name, in the command alone
abbrev pub place_of : FlagParts → List ℕ → Option ℕ
place_of given name = if in_command given.place then option_and_then small (first_named given.groups name) else None

-- the group at a place
abbrev pub group_at : Option ℕ → Result Piece FlagFault
group_at (Some at) = Ok (Group at)
group_at None = Err FlagNotHere

-- what a part of a text stands for
abbrev pub value : FlagParts → Part → Result Piece FlagFault
value given (Byte byte) = Ok (Text (byte ∷ []))
value given (Flagged flag) = if stands given flag then Ok (Text (meaning given flag)) else Err FlagNotHere
value given (Named name) = group_at (place_of given name)
value given (Unknown _) = Err UnknownFlag
