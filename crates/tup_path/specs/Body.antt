-- Where the bytes of a text lie (own).
use Rattle.std.specs.Prelude.{◌≡◌, ◌≤◌, ◌+◌, ◌-◌, ◌*◌, ℕ, List, [], ◌∷◌, take, drop, replicate, ⊤}
use Rattle.tup_path.specs.declared.text.Body.{Body}
use Rattle.tup_path.specs.declared.text.Body.TheVariants.{Short, Long}

-- the bytes of a text
abbrev pub bytes_in : Body → List ℕ
bytes_in (Short alloc bytes len) = take len bytes
bytes_in (Long bytes) = bytes.items

-- a text that lies in the value has zeros behind it
abbrev pub HasZeros : Body → Type 0
HasZeros (Short alloc bytes len) = (len ≤ 24) × (drop len bytes ≡ replicate (24 - len) 0)
HasZeros (Long bytes) = ⊤

-- the number that bytes are behind a number, the highest first
abbrev pub high_first : ℕ → List ℕ → ℕ
high_first n [] = n
high_first n (byte ∷ bytes) = high_first (n * 256 + byte) bytes
