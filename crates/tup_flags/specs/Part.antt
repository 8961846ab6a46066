-- A text as bytes, flags and groups, from the manual; that another character or the end behind a percent sign is no flag is own.
use Rattle.std.specs.Prelude.{◌≡◌, ℕ, ◌==◌, if◌then◌else◌, List, [], ◌∷◌, ◌++◌, Option, Some, None}
use Rattle.std.specs.Option.{option_map_or}
use Rattle.tup_flags.specs.declared.flag.Flag.{Flag}
use Rattle.tup_flags.specs.declared.flag.Flag.TheVariants.{Percent, Inputs, Names, Stems, Extension, Outputs, Trunk, Folder, Glob, Order}
use Rattle.tup_flags.specs.declared.mark.Mark.{Mark}
use Rattle.tup_flags.specs.declared.mark.Mark.TheVariants as mark

-- a byte that stands for itself, a flag of one character, a group by its name, or bytes that a percent sign begins and that are none of these
pub data Part : Type 0 where
  Byte : ℕ → Part
  Flagged : Flag → Part
  Named : List ℕ → Part
  Unknown : List ℕ → Part

-- the character of a flag
abbrev pub character : Flag → ℕ
character Percent = 37
character Inputs = 102
character Names = 98
character Stems = 66
character Extension = 101
character Outputs = 111
character Trunk = 79
character Folder = 100
character Glob = 103
character Order = 105

-- how a part is written
abbrev pub spelled : Part → List ℕ
spelled (Byte byte) = byte ∷ []
spelled (Flagged flag) = 37 ∷ character flag ∷ []
spelled (Named name) = 37 ∷ 60 ∷ name ++ 62 ∷ []
spelled (Unknown bytes) = bytes

-- the flag with a character
abbrev pub flag_of : ℕ → Option Flag
flag_of byte =
    if byte == 37 then Some Percent
    else if byte == 102 then Some Inputs
    else if byte == 98 then Some Names
    else if byte == 66 then Some Stems
    else if byte == 101 then Some Extension
    else if byte == 111 then Some Outputs
    else if byte == 79 then Some Trunk
    else if byte == 100 then Some Folder
    else if byte == 103 then Some Glob
    else if byte == 105 then Some Order
    else None

-- how far a text is read: between parts, behind a percent sign, or in the name of a group, of which so much is read
pub data State : Type 0 where
  Between : State
  Behind : State
  Within : List ℕ → State

-- the parts of what is still to be read
abbrev pub parts_from : State → List ℕ → List Part
parts_from Between [] = []
parts_from Behind [] = Unknown (37 ∷ []) ∷ []
parts_from (Within name) [] = Unknown (37 ∷ 60 ∷ name) ∷ []
parts_from Between (byte ∷ more) = if byte == 37 then parts_from Behind more else Byte byte ∷ parts_from Between more
parts_from Behind (byte ∷ more) =
    if byte == 60 then parts_from (Within []) more
    else option_map_or (λ flag. Flagged flag) (flag_of byte) (Unknown (37 ∷ byte ∷ [])) ∷ parts_from Between more
parts_from (Within name) (byte ∷ more) = if byte == 62 then Named name ∷ parts_from Between more else parts_from (Within (name ++ byte ∷ [])) more

-- the parts of a text
abbrev pub parts : List ℕ → List Part
parts text = parts_from Between text

-- the part that a mark is
abbrev pub part_of : Mark → Part
part_of (mark.Flag flag) = Flagged flag
part_of (mark.Group name) = Named name.now

-- parts of which the first is unknown
abbrev pub BeginsUnknown : List Part → Type 0
BeginsUnknown all = (bytes : List ℕ) × (more : List Part) × (all ≡ Unknown bytes ∷ more)
