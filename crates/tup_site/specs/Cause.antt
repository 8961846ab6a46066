-- Why a call of a site is refused. The outside's own failures are counted, so that nobody else can claim one.
use Rattle.std.specs.Prelude.{◌≡◌, ◌≢◌, ℕ, ◌≤◌, ◌<◌, [], length, Option, Some, IsSome, Result, Err}
use Rattle.std.specs.FinMap as finite
use Rattle.tup_path.specs.Count.{Rose}
use Rattle.tup_path.specs.Name.{Names, Content}
use Rattle.tup_path.specs.Tree.{Tree, IsBelow}
use Rattle.tup_site.specs.declared.fault.SiteFailed.{SiteFailed}
use Rattle.tup_site.specs.declared.fault.SiteFailed.TheVariants.{Fault, TooLarge}

-- The count rises with each answer that is this fault, and at no other: no fault of the site is dropped, and none is made up.
pub record Counts {T F : Type 0} (which : F) (before now : ℕ) (result : Result T F) : Type 0 where
  pub later : before ≤ now
  pub fault : result ≡ Err which → Rose before now
  pub steady : result ≢ Err which → now ≡ before

-- the same of what a site itself answers
abbrev pub CountsFaults : {T : Type 0} → ℕ → ℕ → Result T SiteFailed → Type 0
CountsFaults before now result = Counts Fault before now result

-- a call that reads no file finds none too large
abbrev pub NeverTooLarge : {T : Type 0} → Result T SiteFailed → Type 0
NeverTooLarge result = (n : ℕ) → result ≢ Err (TooLarge n)

-- a file that is read has at most so many bytes: 16 MiB
abbrev pub most_bytes : ℕ
most_bytes = 16777216

-- what was read of a file, if it is there, isn't longer than a file may be
abbrev pub IsSmall : Option Content → Type 0
IsSmall found = (content : Content) → found ≡ Some content → length content ≤ most_bytes

-- only a file that is longer than a file may be is too large, as this fault tells it
abbrev pub TellsLarge : {T F : Type 0} → (ℕ → F) → Result T F → Type 0
TellsLarge large result = (n : ℕ) → result ≡ Err (large n) → most_bytes < n

-- the same of what a site itself answers
abbrev pub OnlyLarge : {T : Type 0} → Result T SiteFailed → Type 0
OnlyLarge result = TellsLarge TooLarge result

-- the file at this path has so many bytes, which are too many
pub record IsTooLarge (tree : Tree) (path : Names) (n : ℕ) : Type 0 where
  pub content : Content
  pub found : finite.get tree path ≡ Some content
  pub bytes : length content ≡ n

-- what is too large is the file at this path, of the length that the answer names, as this fault tells it
abbrev pub TellsLength : {T F : Type 0} → (ℕ → F) → Tree → Names → Result T F → Type 0
TellsLength large tree path result = (n : ℕ) → result ≡ Err (large n) → IsTooLarge tree path n

-- the same of what a site itself answers
abbrev pub NamesLength : {T : Type 0} → Tree → Names → Result T SiteFailed → Type 0
NamesLength tree path result = TellsLength TooLarge tree path result

-- two trees agree everywhere but at one path
abbrev pub SameBut : Names → Tree → Tree → Type 0
SameBut path old new = (other : Names) → other ≢ path → finite.get new other ≡ finite.get old other

-- a file may be put here: the top is a folder, and so is what stands above a file
pub record IsPlace (tree : Tree) (path : Names) : Type 0 where
  pub not_top : path ≢ []
  pub none_above : (file : Names) → IsSome (finite.get tree file) → IsBelow file path → ⊥
  pub none_below : (file : Names) → IsSome (finite.get tree file) → IsBelow path file → ⊥
