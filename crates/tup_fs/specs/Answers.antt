-- What is known of the files by what was answered for them, and what may be found next. Own.
use Rattle.std.specs.Prelude.{◌≡◌, ◌≢◌, ◌⊎◌, ℕ, Bool, true, false, IsTrue, ◌==◌, List, Option, Some, None, String, slice_get, string_bytes, if◌then◌else◌}
use Rattle.std.specs.Global.{Global}
use Rattle.std.specs.HashMap.{get_by_text}
use Rattle.std.specs.Str.{bytes_eq}
use Rattle.tup_path.specs.Name.{Content}
use Rattle.tup_disk.specs.Sum.{sum}
use Rattle.tup_stamp.specs.Stamp.{stamp}
use Rattle.tup_stamp.specs.declared.Stamp.{Stamp}
use Rattle.tup_fs.specs.declared.answers.Answers.{Answers}
use Rattle.tup_fs.specs.declared.answers.Known.{Known}
use Rattle.tup_fs.specs.declared.answers.Known.TheVariants.{Unknown, Absent, File, Sum, Noted}
use Rattle.tup_fs.specs.declared.reading.Found.{Found}
use Rattle.tup_fs.specs.declared.reading.Found.TheVariants as found

-- what is known of a place: what was noted of it, or else that no file is there once all files were listed
abbrev pub known_from : Bool → Option Known → Known
known_from is_listed (Some known) = known
known_from true None = Absent
known_from false None = Unknown

-- the same of a place of the map
abbrev pub known_at : Answers → List ℕ → Known
known_at answers place = known_from answers.is_listed (get_by_text answers.places place)

-- a place is the next one of the map
abbrev pub IsNext : Answers → List ℕ → Type 0
IsNext answers place = (next : String Global) × (known : Known) × (slice_get answers.places.entries answers.next ≡ Some (next, known)) × (string_bytes next ≡ place)

-- what is known of a place where this was found
abbrev pub known_of : Found → Known
known_of found.Nothing = Absent
known_of (found.Content bytes) = Sum (sum bytes)
known_of (found.TooLarge len) = File None

-- the same of what the site answers
abbrev pub known_by : Option Content → Known
known_by None = Absent
known_by (Some content) = Sum (sum content)

-- whether a place of which one thing was known may have another one now: a content stays as it is, and what isn't there
-- isn't made. A file that was listed may be gone at its first reading
abbrev pub may_follow : Known → Known → Bool
may_follow Unknown now = true
may_follow Absent Absent = true
may_follow Absent Unknown = false
may_follow Absent (File inode) = false
may_follow Absent (Sum after) = false
may_follow Absent (Noted stamp) = false
may_follow (File inode) Absent = true
may_follow (File inode) Unknown = false
may_follow (File inode) (File other) = true
may_follow (File inode) (Sum after) = true
may_follow (File inode) (Noted stamp) = true
may_follow (Sum before) Absent = false
may_follow (Sum before) Unknown = false
may_follow (Sum before) (File inode) = false
may_follow (Sum before) (Sum after) = before == after
may_follow (Sum before) (Noted stamp) = false
may_follow (Noted before) Absent = false
may_follow (Noted before) Unknown = false
may_follow (Noted before) (File inode) = false
may_follow (Noted before) (Sum after) = true
may_follow (Noted before) (Noted after) = false

-- the content that was found, if it was read
abbrev pub content_of : Found → Option Content
content_of found.Nothing = None
content_of (found.Content bytes) = Some bytes
content_of (found.TooLarge len) = None

-- a content that is found where a stamp was told has that stamp
abbrev pub HasStamp : Known → Option Content → Type 0
HasStamp (Noted told) (Some content) = stamp content ≡ told
HasStamp _ _ = Unit {0}

-- what is known now may follow what was known of a place
abbrev pub Follows : Answers → List ℕ → Known → Type 0
Follows answers place now = IsTrue (may_follow (known_at answers place) now)

-- this is known of a place from now on, and of each other place what was known before
abbrev pub Learns : Answers → Answers → List ℕ → Known → Type 0
Learns old new place known = (other : List ℕ) → known_at new other ≡ (if bytes_eq place other then known else known_at old other)

-- what was known of a place still is
abbrev pub StayKnown : Answers → Answers → Type 0
StayKnown old new = (place : List ℕ) → known_at old place ≢ Unknown → known_at new place ≡ known_at old place

-- what is known of a place whose stamp was told: that stamp, or the sum of a content that has it
abbrev pub IsKnownBy : Stamp → Known → Type 0
IsKnownBy told known = (known ≡ Noted told) ⊎ ((content : Content) × (stamp content ≡ told) × (known ≡ Sum (sum content)))

-- a stamp is told of a place, and is what is known there from now on
abbrev pub TellsStamp : Answers → Answers → List ℕ → Stamp → Type 0
TellsStamp old new place told = (known : Known) × IsKnownBy told known × Learns old new place known
