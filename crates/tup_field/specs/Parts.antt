-- What formats are made of (own). Numbers are written with the high byte first.
use Rattle.std.specs.Prelude.{◌≡◌, ℕ, zero, suc, ◌<◌, ◌^◌, Bool, true, List, [], ◌∷◌, ◌++◌, length, take, drop, Option, Some, None, Ok, Err, ◌==◌, nat_lt, if◌then◌else◌}
use Rattle.std.specs.List.{flat_map, AllByRecursion}
use Rattle.std.specs.Int.{w32, to_be_bytes, from_be_bytes}
use Rattle.tup_field.specs.declared.fault.RecordFault.TheVariants.{Short, BadField}
use Rattle.tup_field.specs.Format.{Read, Format, ◌>>=◌}

-- ---- bytes and numbers

-- so many bytes
abbrev pub taken : ℕ → List ℕ → Read (List ℕ)
taken n bytes = if nat_lt (length bytes) n then Err Short else Ok (take n bytes, drop n bytes)

-- the first byte
abbrev pub byte_at : List ℕ → Read ℕ
byte_at [] = Err Short
byte_at (b ∷ rest) = Ok (b, rest)

-- the number that the first four bytes are
abbrev pub number_at : List ℕ → Read ℕ
number_at bytes = do
  four ← taken 4 bytes
  Ok (from_be_bytes w32 four.0, four.1)

-- so many bytes, as they are
abbrev pub fixed : ℕ → Format (List ℕ)
fixed n = record { Fits = λ bytes. length bytes ≡ n; Writable = λ _. Unit {0}; spelling = λ bytes. bytes; reading = taken n }

-- one byte
abbrev pub byte : Format ℕ
byte = record { Fits = λ b. b < 256; Writable = λ _. Unit {0}; spelling = λ b. b ∷ []; reading = byte_at }

-- four bytes
abbrev pub number : Format ℕ
number = record { Fits = λ n. n < 2 ^ 32; Writable = λ _. Unit {0}; spelling = to_be_bytes w32; reading = number_at }

-- no bytes
abbrev pub empty : Format (Unit {0})
empty = record { Fits = λ _. Unit {0}; Writable = λ _. Unit {0}; spelling = λ _. []; reading = λ bytes. Ok (tt, bytes) }

-- ---- one behind another

-- a value, and behind it one of a format that hangs on the first
abbrev pub depending : {A B : Type 0} → Format A → (A → Format B) → Format (A × B)
depending f g = record {
  Fits = λ x. f.Fits x.0 × (g x.0).Fits x.1;
  Writable = λ x. f.Writable x.0 × (g x.0).Writable x.1;
  spelling = λ x. f.spelling x.0 ++ (g x.0).spelling x.1;
  reading = λ bytes. do
    a ← f.reading bytes
    b ← (g a.0).reading a.1
    Ok ((a.0, b.0), b.1);
}

-- a value, and another one behind it
infixr 20 ◌&◌
abbrev pub ◌&◌ : {A B : Type 0} → Format A → Format B → Format (A × B)
f & g = depending f (λ _. g)

-- the values of another type, each standing for one of the first
abbrev pub as_if : {A B : Type 0} → (A → B) → (B → A) → Format A → Format B
as_if to from f = record {
  Fits = λ b. f.Fits (from b);
  Writable = λ b. f.Writable (from b);
  spelling = λ b. f.spelling (from b);
  reading = λ bytes. do
    a ← f.reading bytes
    Ok (to a.0, a.1);
}

-- only the values that pass a test, which is made once the bytes are whole
abbrev pub checked : {A : Type 0} → (A → Bool) → Format A → Format A
checked test f = record {
  Fits = λ a. f.Fits a × (test a ≡ true);
  Writable = f.Writable;
  spelling = f.spelling;
  reading = λ bytes. do
    a ← f.reading bytes
    if test a.0 then Ok a else Err BadField;
}

-- the same, with other words for the values that have a spelling, none of which is refused
abbrev pub fitting : {A : Type 0} → (A → Type 0) → Format A → Format A
fitting Fits f = record { Fits = Fits; Writable = λ _. Unit {0}; spelling = f.spelling; reading = f.reading }

-- ---- how many, and so many

-- bytes behind their count
abbrev pub sized : Format ℕ → Format (List ℕ)
sized count = record {
  Fits = λ bytes. count.Fits (length bytes);
  Writable = λ bytes. count.Fits (length bytes);
  spelling = λ bytes. count.spelling (length bytes) ++ bytes;
  reading = λ bytes. do
    n ← count.reading bytes
    taken n.0 n.1;
}

-- so many values
abbrev pub many_at : {A : Type 0} → (List ℕ → Read A) → ℕ → List ℕ → Read (List A)
many_at read zero bytes = Ok ([], bytes)
many_at read (suc n) bytes = do
  first ← read bytes
  others ← many_at read n first.1
  Ok (first.0 ∷ others.0, others.1)

-- values behind their count
abbrev pub counted : {A : Type 0} → Format ℕ → Format A → Format (List A)
counted count f = record {
  Fits = λ xs. count.Fits (length xs) × AllByRecursion f.Fits xs;
  Writable = λ xs. count.Fits (length xs) × AllByRecursion f.Writable xs;
  spelling = λ xs. count.spelling (length xs) ++ flat_map f.spelling xs;
  reading = λ bytes. do
    n ← count.reading bytes
    many_at f.reading n.0 n.1;
}

-- values behind their number, in four bytes
abbrev pub list : {A : Type 0} → Format A → Format (List A)
list f = counted number f

-- ---- one of several, by a mark of one byte

-- what is read behind a mark
abbrev pub Arms : Type 0 → Type 0
Arms A = ℕ → List ℕ → Read A

-- no mark is known
abbrev pub no_mark : {A : Type 0} → Arms A
no_mark mark rest = Err BadField

-- behind one mark stands a value of a format; other marks are looked up further on
abbrev pub arm : {A B : Type 0} → ℕ → Format A → (A → B) → Arms B → Arms B
arm own f make others mark rest = if mark == own then (do
  a ← f.reading rest
  Ok (make a.0, a.1)) else others mark rest

-- a mark, and what stands behind it
abbrev pub marked_at : {A : Type 0} → Arms A → List ℕ → Read A
marked_at arms [] = Err Short
marked_at arms (mark ∷ rest) = arms mark rest

-- an option: the mark 0 alone, or the mark 1 and the value
abbrev pub OptionFits : {A : Type 0} → Format A → Option A → Type 0
OptionFits f None = Unit {0}
OptionFits f (Some a) = f.Fits a

-- one that isn't refused
abbrev pub OptionWritable : {A : Type 0} → Format A → Option A → Type 0
OptionWritable f None = Unit {0}
OptionWritable f (Some a) = f.Writable a

-- its spelling
abbrev pub option_spelling : {A : Type 0} → Format A → Option A → List ℕ
option_spelling f None = 0 ∷ []
option_spelling f (Some a) = 1 ∷ f.spelling a

-- its format
abbrev pub option : {A : Type 0} → Format A → Format (Option A)
option f = record {
  Fits = OptionFits f;
  Writable = OptionWritable f;
  spelling = option_spelling f;
  reading = marked_at (arm 0 empty (λ _. None) (arm 1 f (λ a. Some a) no_mark));
}
