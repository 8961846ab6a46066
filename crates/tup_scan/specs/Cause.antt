-- Why a scan is refused (own).
use Rattle.std.specs.Prelude.{◌≡◌, ℕ, ◌≤◌, ◌<◌, length, All, Result, Err}
use Rattle.std.specs.FinMap as finite
use Rattle.tup_path.specs.Name.{Names}
use Rattle.tup_path.specs.Tree.{Tree}
use Rattle.tup_site.specs.Cause.{Counts, IsSmall, IsTooLarge, most_bytes}
use Rattle.tup_site.specs.declared.fault.SiteFailed.{SiteFailed}
use Rattle.tup_site.specs.declared.fault.SiteFailed.TheVariants.{Fault, TooLarge as SiteTooLarge, Memory as SiteMemory}
use Rattle.tup_scan.specs.declared.fault.ScanFault.{ScanFault}
use Rattle.tup_scan.specs.declared.fault.ScanFault.TheVariants.{Site, TooLarge, TooManyFiles, Memory}

-- how a refusal of the site is told
abbrev pub fault_of : SiteFailed → ScanFault
fault_of Fault = Site
fault_of (SiteTooLarge n) = TooLarge n
fault_of SiteMemory = Memory

-- the site's count rises with each `Site`, and at no other answer
abbrev pub CountsFaults : {T : Type 0} → ℕ → ℕ → Result T ScanFault → Type 0
CountsFaults before now result = Counts Site before now result

-- numbers that are told are above the limits
pub record IsAbove {T : Type 0} (result : Result T ScanFault) : Type 0 where
  pub files : (n : ℕ) → result ≡ Err (TooManyFiles n) → 65536 < n
  pub bytes : (n : ℕ) → result ≡ Err (TooLarge n) → most_bytes < n

-- and they are those of this tree: a length is that of one of its files
pub record IsOf {T : Type 0} (tree : Tree) (result : Result T ScanFault) : Type 0 where
  pub files : (n : ℕ) → result ≡ Err (TooManyFiles n) → n ≡ length (finite.keys tree)
  pub bytes : (n : ℕ) → result ≡ Err (TooLarge n) → (path : Names) × IsTooLarge tree path n

-- a file is told as too large only where there aren't too many
abbrev pub TellsManyFirst : {T : Type 0} → Tree → Result T ScanFault → Type 0
TellsManyFirst tree result = (n : ℕ) → result ≡ Err (TooLarge n) → length (finite.keys tree) ≤ 65536

-- the file at this path, if there is one, isn't too large
abbrev pub IsSmallAt : Tree → Names → Type 0
IsSmallAt tree path = IsSmall (finite.get tree path)

-- no file of a tree is too large, and there aren't too many
pub record IsWithinLimits (tree : Tree) : Type 0 where
  pub files : length (finite.keys tree) ≤ 65536
  pub bytes : All (IsSmallAt tree) (finite.keys tree)
