-- How many files a site may have, and how many bytes a file that it reads.
use Rattle.std.specs.Prelude.{◌≡◌, ℕ, ◌≤◌, ◌<◌, length, Option, Some, Result, Err}
use Rattle.tup_path.specs.Name.{Content}
use Rattle.tup_site.specs.Cause.{most_bytes}
use Rattle.tup_site.specs.declared.fault.SiteFailed.{SiteFailed}
use Rattle.tup_site.specs.declared.fault.SiteFailed.TheVariants.{TooLarge}
use Rattle.tup_site.specs.declared.limits.Limits.{Limits}

-- the limits of a site in memory
abbrev pub least : Limits
least = record { files = 65536; bytes = most_bytes }

-- the limits of a real disk
abbrev pub greatest : Limits
greatest = record { files = 1048576; bytes = 1073741824 }

-- limits that a site may have: neither is below that of a site in memory, or above that of a real disk
pub record AreLimits (limits : Limits) : Type 0 where
  pub least_files : 65536 ≤ limits.files
  pub most_files : limits.files ≤ 1048576
  pub least_bytes : most_bytes ≤ limits.bytes
  pub most_bytes : limits.bytes ≤ 1073741824

-- what was read of a file, if it is there, isn't longer than these limits allow
abbrev pub IsWithin : Limits → Option Content → Type 0
IsWithin limits found = (content : Content) → found ≡ Some content → length content ≤ limits.bytes

-- only a file that is longer than these limits allow is too large
abbrev pub OnlyOver : {T : Type 0} → Limits → Result T SiteFailed → Type 0
OnlyOver limits result = (n : ℕ) → result ≡ Err (TooLarge n) → limits.bytes < n
