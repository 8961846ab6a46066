-- The bytes of the file in which stamps are noted, `.tup/stamps`. Own.
use Rattle.std.specs.Prelude.{◌≡◌, ℕ, ◌≤◌, List, ◌++◌, length, codes}
use Rattle.std.specs.Int.{to_be_bytes, w16, w64}
use Rattle.tup_disk.specs.declared.stat.Stat.{Stat}
use Rattle.tup_stamp.specs.declared.Stamp.{Stamp}
use Rattle.tup_disk.specs.Sum.{sum}
use Rattle.tup_fs.specs.declared.note_file.Head.{Head}

-- the first bytes: what the file is, and the version of its form
abbrev pub mark : List ℕ
mark = codes "tup-st1\n"

-- the head of a file of this boot and this device, which a call wrote that began then
abbrev pub head_from : Head → ℕ → List ℕ
head_from now began = mark ++ (now.boot ++ (to_be_bytes w64 now.device ++ to_be_bytes w64 began))

-- the head that a call writes
abbrev pub head_bytes : Head → List ℕ
head_bytes now = head_from now now.began

-- what was seen of a file: its number, its length, and its two times, 8 bytes each. The device is in the head
abbrev pub stat_bytes : Stat → List ℕ
stat_bytes stat = to_be_bytes w64 stat.inode.number ++ (to_be_bytes w64 stat.len ++ (to_be_bytes w64 stat.written ++ to_be_bytes w64 stat.changed))

-- an entry: the length of the place and the place, what was seen of the file, and its stamp of 32 bytes
abbrev pub entry_bytes : List ℕ → Stat → Stamp → List ℕ
entry_bytes place stat stamp = to_be_bytes w16 (length place) ++ (place ++ (stat_bytes stat ++ stamp.0))

-- bytes, and their sum behind them
abbrev pub sealed : List ℕ → List ℕ
sealed front = front ++ to_be_bytes w64 (sum front)

-- a whole file with these entries, of this boot and this device, that a call wrote which began no later
abbrev pub IsWhole : Head → List ℕ → List ℕ → Type 0
IsWhole now bytes entries = (began : ℕ) × (began ≤ now.began) × (bytes ≡ sealed (head_from now began ++ entries))
