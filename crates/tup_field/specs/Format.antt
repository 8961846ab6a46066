-- A format: how the values of a type are spelled as bytes, and how a value is read from the front of bytes (own).
use Rattle.std.specs.Prelude.{◌≡◌, ◌≢◌, ◌⊎◌, ℕ, ◌<◌, List, ◌++◌, Result, Ok, Err, slice_index}
use Rattle.tup_field.specs.declared.fault.RecordFault.{RecordFault}
use Rattle.tup_field.specs.declared.fault.RecordFault.TheVariants.{Short, BadField, Memory}

-- a value from the front of bytes with the bytes behind it, or the first place from the left that doesn't fit
abbrev pub Read : Type 0 → Type 0
Read A = Result (A × List ℕ) RecordFault

-- one step after another, up to the first that fails
infixl 10 ◌>>=◌
abbrev pub ◌>>=◌ : {A B : Type 0} → Result A RecordFault → (A → Result B RecordFault) → Result B RecordFault
(Ok x) >>= f = f x
(Err fault) >>= f = Err fault

-- which values have a spelling, which aren't refused for a length, their spellings, and how they are read
pub record Format (A : Type 0) : Type 1 where
  pub Fits : A → Type 0
  -- no text of it has 2^32 bytes or more, and no list of it 2^32 members or more
  pub Writable : A → Type 0
  pub spelling : A → List ℕ
  pub reading : List ℕ → Read A

-- numbers that are bytes
abbrev pub IsBytes : List ℕ → Type 0
IsBytes bytes = (i : ℕ) → slice_index bytes i < 256

-- why a value isn't written: there was no memory, or it isn't writable
abbrev pub IsUnwritten : Type 0 → RecordFault → Type 0
IsUnwritten Writable fault = (fault ≡ Memory) ⊎ ((fault ≡ BadField) × (¬ Writable))

-- what was read, with more bytes behind it
abbrev pub carry : {A : Type 0} → List ℕ → Read A → Read A
carry more (Ok x) = Ok (x.0, x.1 ++ more)
carry more (Err fault) = Err fault

-- reading is exact both ways, and tells only of the bytes up to the place where it ends
pub record IsExact {A : Type 0} (f : Format A) : Type 0 where
  -- what is read is spelled so
  pub found : (bytes : List ℕ) (a : A) (rest : List ℕ) → IsBytes bytes → f.reading bytes ≡ Ok (a, rest) → f.Fits a × (bytes ≡ f.spelling a ++ rest)
  -- what is spelled so is read, whatever follows
  pub again : (a : A) (rest : List ℕ) → f.Fits a → f.reading (f.spelling a ++ rest) ≡ Ok (a, rest)
  -- only the answer that the bytes end too early changes with what follows
  pub stands : (bytes more : List ℕ) → f.reading bytes ≢ Err Short → f.reading (bytes ++ more) ≡ carry more (f.reading bytes)
