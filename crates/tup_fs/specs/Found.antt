-- What is found where a file is asked for. Own.
-- A file that grows past the limit while it is read is refused as one byte over it.
use Rattle.std.specs.Prelude.{◌≡◌, ℕ, ◌<◌, ◌≤◌, List, length, Option, Some, None, String, string_bytes}
use Rattle.std.specs.Global.{Global}
use Rattle.tup_site.specs.Limits.{greatest}
use Rattle.tup_fs.specs.declared.reading.Found.{Found}
use Rattle.tup_fs.specs.declared.reading.Found.TheVariants.{Nothing, Content, TooLarge}

-- what was read isn't longer than a file may be, and what is longer wasn't read
abbrev pub IsWithin : Found → Type 0
IsWithin Nothing = Unit {0}
IsWithin (Content bytes) = length bytes ≤ greatest.bytes
IsWithin (TooLarge len) = greatest.bytes < len

-- these bytes were found, or that they are so many
abbrev pub IsFoundAs : List ℕ → Found → Type 0
IsFoundAs bytes Nothing = ⊥
IsFoundAs bytes (Content found) = found ≡ bytes
IsFoundAs bytes (TooLarge len) = len ≡ length bytes

-- what is found at a link is the text of where it leads, and nothing where that can't be told
abbrev pub IsTextOf : Option (String Global) → Found → Type 0
IsTextOf None found = found ≡ Nothing
IsTextOf (Some target) found = IsFoundAs (string_bytes target) found
