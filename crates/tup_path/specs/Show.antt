-- How a path is written. The form is that of every Unix tool.
-- A folder above is written `..`, without a slash after it: `lib` seen from `lib/x` is `..`.
use Rattle.std.specs.Prelude.{◌≡◌, ℕ, suc, ◌≤◌, All, ◌-◌, if◌then◌else◌, List, [], ◌∷◌, ◌++◌, length, drop, bytes_eq, replicate}
use Rattle.std.specs.List.{join_with_byte}
use Rattle.tup_path.specs.Name.{Names}

-- names with a slash between them, and a dot where there is none
abbrev pub show : Names → List ℕ
show [] = 46 ∷ []
show (name ∷ names) = join_with_byte 47 (name ∷ names)

-- a part of a path that has a byte at least
abbrev pub HasBytes : List ℕ → Type 0
HasBytes part = 1 ≤ length part

-- a text of joined names has gained these behind them, whichever stood there
abbrev pub GainsNames : List ℕ → List ℕ → Names → Type 0
GainsNames old new names =
    (front : Names) → All HasBytes front → old ≡ join_with_byte 47 front → new ≡ join_with_byte 47 (front ++ names)

-- how many names two paths share at their front
abbrev pub shared : Names → Names → ℕ
shared [] _ = 0
shared (a ∷ more) [] = 0
shared (a ∷ more) (b ∷ others) = if bytes_eq a b then suc (shared more others) else 0

-- the way from a folder to a path: up past what they share, and down from there
abbrev pub show_from : Names → Names → List ℕ
show_from dir path =
    let n = shared dir path in show (replicate (length dir - n) (46 ∷ 46 ∷ []) ++ drop n path)
