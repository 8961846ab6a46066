-- The stamp of a content: its SHA-256 digest of 32 bytes (FIPS 180-4).
use Rattle.std.specs.Prelude.{ℕ, List}
use Rattle.sha2.specs.Sha256.{sha256}
use Rattle.tup_stamp.specs.declared.Stamp.{Stamp}

-- what stands for a content wherever two contents are compared
abbrev pub stamp : List ℕ → Stamp
stamp content = record { 0 = sha256 content }
