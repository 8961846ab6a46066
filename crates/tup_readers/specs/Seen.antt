-- Files in a list, beside the stamps with which all files were seen (own).
use Rattle.std.specs.Prelude.{◌≡◌, ℕ, List, Some}
use Rattle.std.specs.Borrow.{Bor}
use Rattle.std.specs.FinMap as finite
use Rattle.std.specs.List.{slice_get}
use Rattle.tup_path.specs.Name.{Names}
use Rattle.tup_stamp.specs.declared.Stamp.{Stamp}
use Rattle.tup_readers.specs.Suspects.{Stamps}

-- each of some files was seen with the stamp that it has in the list
abbrev pub AreSeen : Stamps → List (Bor Names × Bor Stamp) → Type 0
AreSeen seen files = (place : ℕ) (file : Bor Names × Bor Stamp) → slice_get files place ≡ Some file → finite.get seen file.0.now ≡ Some file.1.now
