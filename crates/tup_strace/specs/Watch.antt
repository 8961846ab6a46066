-- What a command did to places, call by call. Each process has a working folder: the folder of the one that made it, until it
-- enters another.
use Rattle.std.specs.Prelude.{ℕ, ◌&&◌, Bool, if◌then◌else◌, List, [], ◌++◌, fold, codes, Option, Some, None}
use Rattle.tup_trace.specs.declared.call.Call.{Call}
use Rattle.tup_strace.specs.Names.{is_forking, is_entering, is_returning, has}
use Rattle.tup_strace.specs.Folders.{none_entered, with_child, with_folder, settled}
use Rattle.tup_strace.specs.Said.{said_of}
use Rattle.tup_strace.specs.Acts.{acts_of, is_done, first}
use Rattle.tup_strace.specs.declared.act.Act.{Act}
use Rattle.tup_strace.specs.declared.acts.Acts.{Acts}
use Rattle.tup_strace.specs.declared.folders.Folders.{Folders}
use Rattle.tup_strace.specs.declared.said.Said.{Said}
use Rattle.tup_strace.specs.declared.watch.Watch.{Watch}

-- ---- who made whom

-- a call that made a process gave its number; a thread shares the folder of its process
abbrev pub born : Folders → Call → Said → Folders
born folders call said = by said.outcome
  where
    by : Option (List ℕ) → Folders
    by None = folders
    by (Some child) = if is_done said.outcome then with_child folders call.process child (has (codes "CLONE_FS") said.words) else folders

-- the process that a call made
abbrev pub with_birth : Folders → Call → Folders
with_birth folders call = if is_forking call.name then born folders call (said_of folders call.process call.parts) else folders

-- which process made which, as the last call of each says
abbrev pub folders_in : List ℕ → List Call → Folders
folders_in dir calls = fold with_birth (none_entered dir) calls

-- ---- working folders

-- a process that was made begins in the folder of its maker
abbrev pub begun : Folders → Call → Said → Folders
begun folders call said = by said.outcome
  where
    by : Option (List ℕ) → Folders
    by None = folders
    by (Some child) = settled folders child call.process

-- a process enters the folder of a descriptor
abbrev pub returned : Folders → Call → Said → Folders
returned folders call said = by said.base
  where
    by : Option (List ℕ) → Folders
    by None = folders
    by (Some path) = with_folder folders call.process path

-- a call that was done may make a process or enter a folder
abbrev pub moved : Folders → Call → Said → Folders
moved folders call said =
    if is_forking call.name then begun folders call said else
    if is_entering call.name then with_folder folders call.process (first said.places) else
    if is_returning call.name then returned folders call said else folders

-- the folders behind a call
abbrev pub folders_after : Folders → Call → Said → Folders
folders_after folders call said =
    let here = settled folders call.process call.process in
    if is_done said.outcome then moved here call said else here

-- ---- call by call

-- what a call does, behind what was done before
abbrev pub with_acts : Acts → List ℕ → Said → Acts
with_acts acts name said = record { list = acts.list ++ acts_of name said }

-- a call that says so
abbrev pub noted : Watch → Call → Said → Watch
noted watch call said = record { folders = folders_after watch.folders call said; acts = with_acts watch.acts call.name said }

-- a call more
abbrev pub followed : Watch → Call → Watch
followed watch call = noted watch call (said_of watch.folders call.process call.parts)

-- a command that did nothing yet, and whose processes begin in these folders
abbrev pub watch_begun : Folders → Watch
watch_begun folders = record { folders = folders; acts = record { list = [] } }

-- what a command did whose processes begin in these folders
abbrev pub watched : Folders → List Call → List Act
watched folders calls = (fold followed (watch_begun folders) calls).acts.list

-- what a command did that began in this folder
abbrev pub acts_in : List ℕ → List Call → List Act
acts_in dir calls = watched (folders_in dir calls) calls
