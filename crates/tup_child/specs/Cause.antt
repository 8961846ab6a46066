-- Why a command has no log: what was asked of the system and where, or which word isn't what it should be. Own.
use Rattle.std.specs.Prelude.{◌≡◌, ◌⊎◌, ℕ, List, ◌++◌, ◌∷◌, Result, Ok, Err, codes}
use Rattle.std.specs.declared.io.Error.{Error}
use Rattle.tup_disk.specs.Told as disk
use Rattle.tup_disk.specs.declared.failure.Operation.{Operation}
use Rattle.tup_disk.specs.declared.failure.Operation.TheVariants.{Look, Read}
use Rattle.tup_disk.specs.declared.failure.Refused.{Refused}
use Rattle.tup_disk.specs.declared.failure.Refused.TheVariants as refused
use Rattle.tup_child.specs.declared.failure.Failure.{Failure}
use Rattle.tup_child.specs.declared.failure.Failure.TheVariants.{Memory, Because, Named, Told, Failed, System}

-- a call on a file failed, of whose refusal this is true
abbrev pub IsFailed : (Refused → Type 0) → Failure → Type 0
IsFailed says Memory = ⊥
IsFailed says (Because text) = ⊥
IsFailed says (Named name cause) = ⊥
IsFailed says Told = ⊥
IsFailed says (Failed failure) = says (refused.Failed failure)
IsFailed says (System error) = ⊥

-- the same, or there was no memory
abbrev pub IsFailedOrMemory : (Refused → Type 0) → Failure → Type 0
IsFailedOrMemory says failure = (failure ≡ Memory) ⊎ IsFailed says failure

-- what a refusal comes to
abbrev pub failure_of : Refused → Failure
failure_of refused.Memory = Memory
failure_of (refused.Failed failure) = Failed failure

-- the place of a file of the stage
abbrev pub staged : List ℕ → List ℕ → List ℕ
staged stage name = stage ++ 47 ∷ name

-- what was found at a place can't be told: it can't be looked at, or what is there isn't read
abbrev pub IsUnfound : List ℕ → Refused → Type 0
IsUnfound place refused = disk.IsNamed Look place refused ⊎ disk.IsNamed Read place refused

-- it is in these words
abbrev pub IsBecause : List ℕ → Failure → Type 0
IsBecause words Memory = ⊥
IsBecause words (Because text) = text.now ≡ words
IsBecause words (Named name cause) = ⊥
IsBecause words Told = ⊥
IsBecause words (Failed failure) = ⊥
IsBecause words (System error) = ⊥

-- a path doesn't resolve
abbrev pub IsUnresolved : Failure → Type 0
IsUnresolved failure = IsBecause (codes "a path doesn't resolve") failure

-- a list of paths doesn't read: it is no text, or one of its lines names no path
abbrev pub IsNoList : Failure → Type 0
IsNoList failure = IsBecause (codes "the list of outputs isn't a text") failure ⊎ IsUnresolved failure
