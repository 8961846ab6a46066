-- The contents that a board keeps by their stamps, so that what many commands ask for is read and digested once (own).
use Rattle.std.specs.Prelude.{◌≡◌, ◌⊎◌, ℕ, ◌+◌, ◌≤◌, List, [], ◌∷◌, length, Option, None, Some, IsTrue}
use Rattle.tup_path.specs.Name.{Content}
use Rattle.tup_stamp.specs.Stamp.{stamp}
use Rattle.tup_stamp.specs.declared.Stamp.{Stamp}
use Rattle.tup_site.specs.Held.{under}
use Rattle.tup_site.specs.Known.{knows}
use Rattle.tup_site.specs.declared.site.Site.{Ghosts as Site}
use Rattle.tup_board.specs.declared.contents.Contents.{Contents}

-- at most so many bytes of contents are kept: 64 MiB
abbrev pub most_kept : ℕ
most_kept = 67108864

-- the content that is kept under a stamp
abbrev pub kept : Contents → Stamp → Option Content
kept contents key = under contents.by_stamp.entries key

-- and under a stamp that may be absent
abbrev pub kept_as : Contents → Option Stamp → Option Content
kept_as contents None = None
kept_as contents (Some key) = kept contents key

-- how many bytes contents have together
abbrev pub bytes_in : List (Stamp × Content) → ℕ
bytes_in [] = 0
bytes_in (entry ∷ entries) = length entry.1 + bytes_in entries

-- what is kept and the room that is left are no more than may be kept
abbrev pub FitsRoom : Contents → Type 0
FitsRoom contents = bytes_in contents.by_stamp.entries + contents.room ≤ most_kept

-- what is kept then was kept before, or it is what was found, under this stamp
abbrev pub AddsAtMost : Option Stamp → Option Content → Contents → Contents → Type 0
AddsAtMost given found old new = (key : Stamp) (content : Content) → kept new key ≡ Some content
    → (kept old key ≡ Some content) ⊎ ((given ≡ Some key) × (found ≡ Some content))

-- the contents that are kept have the stamps under which they are, the site knows them, and they take no more than may be kept
pub record AreKept {S : Type 0} (site : Site S) (s : S) (contents : Contents) : Type 0 where
  pub stamped : (key : Stamp) (content : Content) → kept contents key ≡ Some content → key ≡ stamp content
  pub known : IsTrue site.tells → (key : Stamp) (content : Content) → kept contents key ≡ Some content → IsTrue (knows (site.known s) content)
  pub room : FitsRoom contents
