-- Which stamps are noted, and what is noted. Own.
use Rattle.std.specs.Prelude.{◌≡◌, ◌<◌, ◌≤◌, Option, None, Some, IfSome}
use Rattle.tup_stamp.specs.declared.Stamp.{Stamp}
use Rattle.tup_disk.specs.declared.stat.Stat.{Stat}
use Rattle.tup_fs.specs.declared.note_file.Entry.{Entry}
use Rattle.tup_fs.specs.declared.notes.Note.{Note}
use Rattle.tup_fs.specs.declared.notes.Quiet.{Quiet}

-- a file of which this is seen is one of those that are noted: it is of their device, and was changed at a known time, which isn't
-- too late
abbrev pub IsQuiet : Quiet → Stat → Type 0
IsQuiet quiet seen = (seen.inode.device ≡ quiet.head.device) × (0 < seen.changed) × (seen.changed ≤ quiet.latest)

-- this is the stamp of an entry of a file that looked so
abbrev pub IsStampIn : Option Entry → Stat → Stamp → Type 0
IsStampIn None seen found = ⊥
IsStampIn (Some entry) seen found = (entry.stat ≡ seen) × (found ≡ entry.stamp)

-- a note of a file of which this is seen: the file is one of those that are noted, and a stamp is that of an entry of its place
abbrev pub IsTakenFrom : Quiet → Option Entry → Option Stat → Note → Type 0
IsTakenFrom quiet entry None note = ⊥
IsTakenFrom quiet entry (Some seen) note = IsQuiet quiet seen × (note.stat ≡ seen) × IfSome note.stamp (IsStampIn entry seen)
