-- A sum of bytes. Own.
use Rattle.std.specs.Prelude.{ℕ, List}
use Rattle.std.specs.Hash.DefaultHasher.{initial, write, finish}

-- a sum of bytes, in 64 bits
abbrev pub sum : List ℕ → ℕ
sum bytes = finish (write initial bytes)
