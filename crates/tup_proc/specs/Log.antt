-- The access log of a started program (own). Each line says one thing that it did: `R HEX TEXT` asked TEXT and found
-- a content with this stamp, `A TEXT` asked TEXT and found nothing, `W K TEXT` wrote TEXT with the content of file K,
-- `E N` ended with status N. The last line, and no other, is the end.
-- A writer may spell any list of lines. Only a log (texts of UTF-8 without a line feed, then one end) has one
-- spelling and reads back. The number of a line stays at the last of 32 bits.
use Rattle.std.specs.Prelude.{◌≡◌, ◌≢◌, ℕ, suc, ◌<◌, Bool, true, false, List, [], ◌∷◌, ◌++◌, length, nat_lt, if◌then◌else◌, All, IsUtf8}
use Rattle.std.specs.Fmt.{decimal}
use Rattle.hex.specs.Hex.{IsBytes}
use Rattle.tup_stamp.specs.Hex.{hex_text}
use Rattle.tup_stamp.specs.declared.Stamp.{Stamp}
use Rattle.tup_proc.specs.declared.line.LogLine.{LogLine}
use Rattle.tup_proc.specs.declared.line.LogLine.TheVariants.{Read, Absent, Wrote, End}

-- how a line is written, without its line feed
abbrev pub spelling_of : LogLine → List ℕ
spelling_of (Read stamp text) = 82 ∷ 32 ∷ hex_text stamp.0 ++ 32 ∷ text
spelling_of (Absent text) = 65 ∷ 32 ∷ text
spelling_of (Wrote file text) = 87 ∷ 32 ∷ decimal file ++ 32 ∷ text
spelling_of (End status) = 69 ∷ 32 ∷ decimal status

-- how lines are written, each with a line feed behind it
abbrev pub spelling : List LogLine → List ℕ
spelling [] = []
spelling (line ∷ lines) = spelling_of line ++ 10 ∷ spelling lines

-- a text as it may stand in a line
pub record IsLineText (text : List ℕ) : Type 0 where
  pub some : text ≢ []
  pub utf8 : IsUtf8 text
  pub no_feed : All (λ byte. byte ≢ 10) text

-- a digest of 32 bytes
pub record IsDigest (stamp : Stamp) : Type 0 where
  pub size : length stamp.0 ≡ 32
  pub bytes : IsBytes stamp.0

-- what a line says can be written in a line
abbrev pub IsLine : LogLine → Type 0
IsLine (Read stamp text) = IsDigest stamp × IsLineText text
IsLine (Absent text) = IsLineText text
IsLine (Wrote file text) = (file < 4294967296) × IsLineText text
IsLine (End status) = status < 256

-- the line that ends a log
abbrev pub is_end : LogLine → Bool
is_end (End status) = true
is_end line = false

-- a line behind which the log goes on
pub record IsStep (line : LogLine) : Type 0 where
  pub fits : IsLine line
  pub goes_on : is_end line ≡ false

-- a log: what the program did, and how it ended
pub record IsLog (lines : List LogLine) : Type 0 where
  pub front : List LogLine
  pub status : ℕ
  pub is : lines ≡ front ++ End status ∷ []
  pub steps : All IsStep front
  pub fits : status < 256

-- no log goes on or ends with these bytes
pub record IsBad (rest : List ℕ) : Type 0 where
  pub no_step : (line : LogLine) (more : List ℕ) → IsStep line → rest ≢ spelling_of line ++ 10 ∷ more
  pub no_end : (status : ℕ) → status < 256 → rest ≢ spelling_of (End status) ++ 10 ∷ []

-- the number of the line behind so many lines; it stands still at the last u32
abbrev pub counted : ℕ → ℕ
counted lines = if nat_lt lines 4294967295 then suc lines else 4294967295

-- this is the number of the first line that doesn't fit, the first line being 1
pub record IsBadAt (bytes : List ℕ) (number : ℕ) : Type 0 where
  pub front : List LogLine
  pub rest : List ℕ
  pub steps : All IsStep front
  pub before : bytes ≡ spelling front ++ rest
  pub bad : IsBad rest
  pub number_is : number ≡ counted (length front)
