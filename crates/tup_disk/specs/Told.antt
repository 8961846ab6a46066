-- How an answer of the system is told, and what a refusal says. Own.
-- No clause of std says when a call of the system fails, or with which error. So a cause here is what was asked and where; which
-- answers of the system aren't a refusal; and which refusals are the program's own.
use Rattle.std.specs.Prelude.{◌≡◌, ◌⊎◌, ◌++◌, ℕ, List, [], Result, Ok, Err, String, string_bytes, codes}
use Rattle.std.specs.Global.{Global}
use Rattle.std.specs.List.{Any}
use Rattle.std.specs.BTreeSet.{BTreeSet}
use Rattle.std.specs.IoError.{error_kind}
use Rattle.std.specs.declared.io.Error.{Error}
use Rattle.std.specs.declared.io.ErrorKind.{ErrorKind}
use Rattle.std.specs.declared.io.ErrorKind.TheVariants.{NotFound, NotADirectory, InvalidFilename, Other}
use Rattle.tup_path.specs.Name.{Names}
use Rattle.tup_disk.specs.Place.{place_of}
use Rattle.tup_disk.specs.declared.failure.Operation.{Operation}
use Rattle.tup_disk.specs.declared.failure.Operation.TheVariants as operation
use Rattle.tup_disk.specs.declared.failure.Refused.{Refused}
use Rattle.tup_disk.specs.declared.failure.Refused.TheVariants.{Memory, Failed}

-- a refusal that names what was asked, and the place, or none where there is no memory for that
abbrev pub IsNamed : Operation → List ℕ → Refused → Type 0
IsNamed operation place Memory = ⊥
IsNamed operation place (Failed failure) = (failure.operation ≡ operation) × ((string_bytes failure.place ≡ place) ⊎ (string_bytes failure.place ≡ []))

-- a refusal that is the system's own, and names where it was
abbrev pub IsFailure : Operation → List ℕ → Error → Refused → Type 0
IsFailure operation place error Memory = ⊥
IsFailure operation place error (Failed failure) = (failure.error ≡ error) × (failure.operation ≡ operation) × ((string_bytes failure.place ≡ place) ⊎ (string_bytes failure.place ≡ []))

-- what the system gave is given on, and what it refused is refused
abbrev pub IsTold : {T : Type 0} → Operation → List ℕ → Result T Error → Result T Refused → Type 0
IsTold operation place (Ok value) result = result ≡ Ok value
IsTold operation place (Err error) (Ok value) = ⊥
IsTold operation place (Err error) (Err refused) = IsFailure operation place error refused

-- an error says that nothing is there, as where a name is longer than a name may be
abbrev pub SaysAbsence : ErrorKind → Type 0
SaysAbsence kind = (kind ≡ NotFound) ⊎ (kind ≡ NotADirectory) ⊎ (kind ≡ InvalidFilename)

-- a refusal that names what was asked, and the place; and it isn't that nothing is there
abbrev pub IsBarred : Operation → List ℕ → Refused → Type 0
IsBarred operation place Memory = ⊥
IsBarred operation place (Failed failure) = IsNamed operation place (Failed failure) × ¬ SaysAbsence (error_kind failure.error)

-- a refusal that names what was asked, and the place, in the program's own words: no call of the system failed
abbrev pub IsOwn : Operation → List ℕ → Refused → Type 0
IsOwn operation place Memory = ⊥
IsOwn operation place (Failed failure) = IsNamed operation place (Failed failure) × (error_kind failure.error ≡ Other)

-- one of these places is barred when it is looked at
abbrev pub IsBarredAbove : List (List ℕ) → Refused → Type 0
IsBarredAbove places refused = Any (λ place. IsBarred operation.Look place refused) places

-- a folder below this one wasn't listed, or what is below it wasn't looked at
abbrev pub IsUnlisted : List ℕ → Refused → Type 0
IsUnlisted root refused = (names : Names) × (IsNamed operation.List (place_of root names) refused ⊎ IsNamed operation.Look (place_of root names) refused)

-- a file that was listed isn't opened, or isn't looked at once it is open
abbrev pub IsUnopened : List ℕ → Refused → Type 0
IsUnopened place refused = IsBarred operation.Open place refused ⊎ IsNamed operation.Look place refused

-- a place wasn't made durable: what is there wasn't opened, or its sync failed
abbrev pub IsUnsynced : List ℕ → Refused → Type 0
IsUnsynced place refused = IsBarred operation.Open place refused ⊎ IsNamed operation.Sync place refused

-- one of these places wasn't
abbrev pub IsUnsyncedAmong : BTreeSet (String Global) → Refused → Type 0
IsUnsyncedAmong places refused = Any (λ place. IsUnsynced (string_bytes place) refused) places.keys

-- where a folder is wanted, something else stands or can't be looked at, or the folder wasn't made
abbrev pub IsUnmade : List ℕ → Refused → Type 0
IsUnmade folder refused = IsBarred operation.Look folder refused ⊎ IsNamed operation.Make folder refused

-- a folder isn't held open: there is no memory, or it can't be looked at or opened, or what stands there is no folder of the project's
abbrev pub IsUnheld : List ℕ → Refused → Type 0
IsUnheld place refused = (refused ≡ Memory) ⊎ IsNamed operation.Look place refused ⊎ IsNamed operation.Open place refused

-- the list of what is mounted doesn't read
abbrev pub HasNoMounts : Refused → Type 0
HasNoMounts refused = (refused ≡ Memory) ⊎ IsNamed operation.Read (codes "/proc/self/mountinfo") refused

-- the program's own folder in this top folder isn't held open: the top folder can't be looked at, or the own one isn't held
abbrev pub HasNoOwn : List ℕ → Refused → Type 0
HasNoOwn root refused = IsNamed operation.Look root refused ⊎ IsUnheld (root ++ codes "/.tup") refused

-- the folder of stages at a place isn't held open: it is neither there nor made, or it isn't held, or it isn't known what is mounted
abbrev pub HasNoStagesAt : List ℕ → Refused → Type 0
HasNoStagesAt place refused = IsNamed operation.Make place refused ⊎ IsUnheld place refused ⊎ HasNoMounts refused

-- the folder of stages in this top folder isn't held open: the top folder can't be looked at, or that one isn't held open at its place
abbrev pub HasNoStages : List ℕ → Refused → Type 0
HasNoStages root refused = IsNamed operation.Look root refused ⊎ HasNoStagesAt (root ++ codes "/.tup/stage") refused
