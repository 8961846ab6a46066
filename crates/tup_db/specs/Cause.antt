-- Why a call on the store is refused: what was asked of the system, and at which of the store's places. Own.
use Rattle.std.specs.Prelude.{◌≡◌, ◌⊎◌, ℕ, List, ◌++◌, false, IsTrue, is_some, if◌then◌else◌, string_bytes}
use Rattle.tup_disk.specs.Told.{IsNamed, IsBarred, IsOwn, IsUnmade, IsUnsynced, IsUnsyncedAmong}
use Rattle.tup_disk.specs.declared.failure.Operation.TheVariants.{Lock, Look, Open, Read, Make, Write, Cut, Copy, Sync, Rename, Remove}
use Rattle.tup_disk.specs.declared.failure.Refused.{Refused}
use Rattle.tup_disk.specs.declared.failure.Refused.TheVariants.{Memory}
use Rattle.tup_disk.specs.declared.touched.Touched.{Touched}
use Rattle.tup_db.specs.Own.{IsOwnBelow}
use Rattle.tup_db.specs.declared.own.Own.{Own}
use Rattle.tup_db.specs.declared.store.Store.{Store}

-- the place of the file that is written: aside, or the store's own
abbrev pub place_of : Store → List ℕ
place_of store = if store.is_aside then string_bytes store.own.aside else string_bytes store.own.store

-- what stands at a place of the program's own can't be looked at, or isn't removed
abbrev pub IsUncleared : List ℕ → Refused → Type 0
IsUncleared place refused = IsBarred Look place refused ⊎ IsBarred Remove place refused

-- the program's own folder can't be looked at, or is none; or what a run which died was making isn't removed
abbrev pub IsUnswept : Own → Refused → Type 0
IsUnswept own refused = IsBarred Look (string_bytes own.folder) refused ⊎ IsUncleared (string_bytes own.aside) refused ⊎ IsUncleared (string_bytes own.epoch_aside) refused

-- in the store's place something else stands, or it can't be looked at
abbrev pub IsBlocked : Own → Refused → Type 0
IsBlocked own refused = IsBarred Look (string_bytes own.store) refused

-- how long the store is can't be told: the file that is written can't be looked at, or the store's place is blocked
abbrev pub IsUnmeasured : Store → Refused → Type 0
IsUnmeasured store refused = IsNamed Look (place_of store) refused ⊎ IsBlocked store.own refused

-- the file in the store's place isn't opened or read, or the place is blocked
abbrev pub IsUnreadInPlace : Own → Refused → Type 0
IsUnreadInPlace own refused = IsBlocked own refused ⊎ IsNamed Open (string_bytes own.store) refused ⊎ IsNamed Read (string_bytes own.store) refused

-- the file that is written isn't read, or that in the store's place
abbrev pub IsUnread : Store → Refused → Type 0
IsUnread store refused = IsNamed Read (place_of store) refused ⊎ IsUnreadInPlace store.own refused

-- no file is made aside: the folder isn't made, or the file in it
abbrev pub IsUnmadeAside : Own → Refused → Type 0
IsUnmadeAside own refused = IsUnmade (string_bytes own.folder) refused ⊎ IsNamed Make (string_bytes own.aside) refused

-- a store with another name isn't copied, or its copy isn't opened
abbrev pub IsUncopied : Own → Refused → Type 0
IsUncopied own refused = IsNamed Copy (string_bytes own.aside) refused ⊎ IsNamed Open (string_bytes own.aside) refused

-- the first write can't begin: the store's place is blocked, or the file there isn't opened, or none is made or copied aside
abbrev pub IsUnbegun : Own → Refused → Type 0
IsUnbegun own refused = IsBlocked own refused ⊎ IsNamed Open (string_bytes own.store) refused ⊎ IsUnmadeAside own refused ⊎ IsUncopied own refused

-- there is no file yet that is written, and the first write can't begin
abbrev pub HasNoFile : Store → Refused → Type 0
HasNoFile store refused = (is_some store.file ≡ false) × IsUnbegun store.own refused

-- the bytes aren't made durable: those of the file that is written, or of the one in the store's place
abbrev pub IsUnsettled : Store → Refused → Type 0
IsUnsettled store refused = IsNamed Sync (place_of store) refused ⊎ IsBlocked store.own refused ⊎ IsUnsynced (string_bytes store.own.store) refused

-- the store's name isn't made durable: the folder isn't, or the one above it
abbrev pub IsUnnamed : List ℕ → Own → Refused → Type 0
IsUnnamed root own refused = IsUnsynced (string_bytes own.folder) refused ⊎ IsUnsynced root refused

-- the store isn't synced: an earlier sync failed, or the bytes aren't made durable, or a new store doesn't come to its place,
-- or its name isn't made durable
abbrev pub IsNotSynced : List ℕ → Store → Refused → Type 0
IsNotSynced root store refused =
    (IsTrue store.is_lost × IsOwn Sync (string_bytes store.own.store) refused)
    ⊎ IsUnsettled store refused ⊎ IsNamed Rename (string_bytes store.own.store) refused ⊎ IsUnnamed root store.own refused

-- what was touched isn't made durable: an earlier sync failed, or one of the places isn't
abbrev pub IsNotSettled : List ℕ → Touched → Refused → Type 0
IsNotSettled root touched refused = (IsTrue touched.is_lost × IsOwn Sync root refused) ⊎ IsUnsyncedAmong touched.places refused

-- bytes of the store aren't summed: there is no memory for them, or they aren't read
abbrev pub IsUnsummed : Store → Refused → Type 0
IsUnsummed store refused = (refused ≡ Memory) ⊎ IsUnread store refused

-- the epoch's file isn't made durable beside its place
abbrev pub IsNotAside : Own → Refused → Type 0
IsNotAside own refused = IsNamed Make (string_bytes own.epoch_aside) refused ⊎ IsNamed Write (string_bytes own.epoch_aside) refused ⊎ IsNamed Sync (string_bytes own.epoch_aside) refused

-- the epoch's file isn't made: there is no memory, or it isn't made durable aside, or it doesn't come to its place durably
abbrev pub HasNoEpoch : Own → Refused → Type 0
HasNoEpoch own refused = (refused ≡ Memory) ⊎ IsNotAside own refused ⊎ IsNamed Rename (string_bytes own.epoch) refused ⊎ IsUnsynced (string_bytes own.folder) refused

-- nothing is noted in the epoch's file: there is no memory, or it isn't written
abbrev pub IsUnnoted : Own → Refused → Type 0
IsUnnoted own refused = (refused ≡ Memory) ⊎ IsNamed Write (string_bytes own.epoch) refused

-- the epoch's file doesn't go durably
abbrev pub IsUnforgotten : Own → Refused → Type 0
IsUnforgotten own refused = IsNamed Remove (string_bytes own.epoch) refused ⊎ IsUnsynced (string_bytes own.folder) refused

-- whether there is an epoch's file, and what it holds, isn't known: it can't be looked at, or isn't opened or read
abbrev pub IsUnfound : Own → Refused → Type 0
IsUnfound own refused = IsBarred Look (string_bytes own.epoch) refused ⊎ IsNamed Open (string_bytes own.epoch) refused ⊎ IsNamed Read (string_bytes own.epoch) refused

-- a call on this store is refused
abbrev pub IsRefused : List ℕ → Store → Refused → Type 0
IsRefused root store refused =
    IsUnmeasured store refused ⊎ IsUnread store refused ⊎ HasNoFile store refused
    ⊎ IsNamed Write (place_of store) refused ⊎ IsNamed Cut (place_of store) refused ⊎ IsNotSynced root store refused

-- what is whole isn't kept durably: there is no memory, or a call on the store below this top folder is refused, or a place below it
-- isn't made durable
abbrev pub IsUnrestored : List ℕ → Refused → Type 0
IsUnrestored root refused =
    (refused ≡ Memory) ⊎ ((store : Store) × IsOwnBelow root store.own × IsRefused root store refused) ⊎ ((below : List ℕ) × IsUnsynced (root ++ below) refused)

-- an epoch that was found isn't ended: the file isn't read or isn't whole, or nothing keeps other processes away, or what is whole
-- isn't kept, or the file doesn't go
abbrev pub IsUnrecovered : List ℕ → Own → Refused → Type 0
IsUnrecovered root own refused =
    IsUnfound own refused ⊎ IsOwn Lock (string_bytes own.epoch) refused ⊎ IsOwn Read (string_bytes own.epoch) refused
    ⊎ IsUnrestored root refused ⊎ IsUnforgotten own refused
