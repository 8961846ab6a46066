-- What a site may say of a file without reading it.
use Rattle.std.specs.Prelude.{◌≡◌, ◌≤◌, length, Option, Some}
use Rattle.std.specs.FinMap as finite
use Rattle.tup_path.specs.Name.{Names, Content}
use Rattle.tup_path.specs.Tree.{Tree}
use Rattle.tup_stamp.specs.Stamp.{stamp}
use Rattle.tup_stamp.specs.declared.Stamp.{Stamp}
use Rattle.tup_site.specs.Cause.{most_bytes}

-- the file at this path has this stamp, and isn't longer than a file may be
pub record HasStamp (tree : Tree) (path : Names) (given : Stamp) : Type 0 where
  pub content : Content
  pub found : finite.get tree path ≡ Some content
  pub stamped : stamp content ≡ given
  pub small : length content ≤ most_bytes

-- a stamp that is given is that of the file at this path; where none is given, nothing is said
abbrev pub IsNotedAt : Tree → Names → Option Stamp → Type 0
IsNotedAt tree path found = (given : Stamp) → found ≡ Some given → HasStamp tree path given
