-- What a call does to places: it asks for them, runs, writes, changes, moves or removes them. A call that failed asks, and is told
-- that nothing is there, or that something is, or neither. One that opens a file asks for it or writes it by its flags, under its
-- name and under the path of its descriptor.
use Rattle.std.specs.Prelude.{ℕ, ◌==◌, ◌&&◌, ◌||◌, not, Bool, true, false, if◌then◌else◌, List, [], ◌∷◌, ◌++◌, Option, Some, None, codes, bytes_eq, unwrap_or}
use Rattle.tup_strace.specs.Names.{is_opening, is_creating, is_moving, is_linking, is_pointing, is_removing, is_making, is_binding, is_cutting, is_running, is_looking, is_reading_link, has}
use Rattle.tup_strace.specs.declared.act.Answer.{Answer}
use Rattle.tup_strace.specs.declared.act.Answer.TheVariants.{Found, Missed, Unclear}
use Rattle.tup_strace.specs.declared.act.Act.{Act}
use Rattle.tup_strace.specs.declared.act.Act.TheVariants.{Ask, Run, Write, Change, Remove, Move}
use Rattle.tup_strace.specs.declared.said.Said.{Said}

-- ---- the places that a call says

-- the first place; the empty one where there is none
abbrev pub first : List (List ℕ) → List ℕ
first [] = []
first (place ∷ more) = place

-- the second place, likewise
abbrev pub second : List (List ℕ) → List ℕ
second [] = []
second (place ∷ more) = first more

-- ---- an act at a place, if there is one

-- an act, where a place is named
abbrev pub at : List ℕ → Act → List Act
at [] act = []
at (byte ∷ more) act = act ∷ []

-- asks for what is there, or for the link there where it isn't followed, and is told so
abbrev pub ask : List ℕ → Bool → Answer → List Act
ask place follows answer = at place (Ask place follows answer)

-- runs what is there
abbrev pub run : List ℕ → List Act
run place = at place (Run place)

-- makes or overwrites what is there
abbrev pub write : List ℕ → Bool → List Act
write place follows = at place (Write place follows)

-- asks for what is there and makes it: had something been there, it couldn't have been made
abbrev pub make : List ℕ → List Act
make place = ask place false Unclear ++ write place false

-- asks for what is there, and may change it
abbrev pub change : List ℕ → Bool → List Act
change place follows = at place (Change place follows)

-- removes what is there
abbrev pub remove : List ℕ → List Act
remove place = at place (Remove place)

-- moves what is there to another place
abbrev pub move : List ℕ → List ℕ → List Act
move from to = at from (Move from to)

-- ---- how a call ended
-- whether it gave an error, or nothing
abbrev pub is_error : List ℕ → Bool
is_error [] = true
is_error (byte ∷ more) = byte == 45 || byte == 63

-- whether it did what it says; a call whose end isn't known did not
abbrev pub is_done : Option (List ℕ) → Bool
is_done None = false
is_done (Some outcome) = not (is_error outcome)

-- whether it failed; a call whose end isn't known did not
abbrev pub has_failed : Option (List ℕ) → Bool
has_failed None = false
has_failed (Some outcome) = is_error outcome

-- whether a link at the place is followed
abbrev pub follows : List ℕ → List (List ℕ) → Bool
follows name words = not (is_looking name || has (codes "AT_SYMLINK_NOFOLLOW") words || has (codes "O_NOFOLLOW") words)

-- ---- what opening a file does

-- whether the file was made where nothing was
abbrev pub is_made : List (List ℕ) → Bool
is_made words = has (codes "O_CREAT") words && has (codes "O_EXCL") words

-- whether the file is new behind it: made, or made empty
abbrev pub is_new : List (List ℕ) → Bool
is_new words = has (codes "O_CREAT") words && has (codes "O_TRUNC") words

-- `openat2` has its flags in a structure, and the first of them is one word with what stands before it
abbrev pub is_structured : List (List ℕ) → Bool
is_structured words = has (codes "{flags=O_WRONLY") words || has (codes "{flags=O_RDWR") words

-- whether the file may be written
abbrev pub is_writing : List (List ℕ) → Bool
is_writing words = has (codes "O_WRONLY") words || has (codes "O_RDWR") words || has (codes "O_APPEND") words || has (codes "O_CREAT") words || is_structured words

-- what opening a file with these flags does
abbrev pub opening_file : List (List ℕ) → List ℕ → Bool → List Act
opening_file words place follows =
    if is_made words then make place else
    if is_new words then write place follows else
    if has (codes "O_TRUNC") words then ask place follows Unclear ++ write place follows else
    if is_writing words then change place follows else ask place follows Found

-- what opening a place with these flags does; a file without a name is no matter of the place, and a folder is only asked for
abbrev pub opening : List (List ℕ) → List ℕ → Bool → List Act
opening words place follows =
    if has (codes "O_TMPFILE") words then [] else
    if has (codes "O_DIRECTORY") words then ask place follows Found else opening_file words place follows

-- ---- what a call does

-- what an error says of the place: nothing is there, or, to a call that reads a link, something that is none
abbrev pub told : List ℕ → List ℕ → Answer
told name fault =
    if bytes_eq fault (codes "ENOENT") then Missed else
    if is_reading_link name && bytes_eq fault (codes "EINVAL") then Found else Unclear

-- what a call was told that failed
abbrev pub answer_of : List ℕ → Option (List ℕ) → Answer
answer_of name None = Unclear
answer_of name (Some fault) = told name fault

-- a call that failed asks for what it names, and one that makes a link doesn't ask where the link leads; a program may not
-- have been run for want of its interpreter
abbrev pub failed : List ℕ → Said → List Act
failed name said =
    let follow = follows name said.words in
    if is_running name then run (first said.places) else
    if is_pointing name then ask (second said.places) false Unclear else
    if is_moving name || is_linking name then ask (first said.places) false Unclear ++ ask (second said.places) false Unclear
    else ask (first said.places) (follow && not (is_removing name)) (answer_of name said.fault)

-- whether a name was moved by what was at its new place: nothing, or something that took its old one
abbrev pub is_telling : List (List ℕ) → Bool
is_telling words = has (codes "RENAME_NOREPLACE") words || has (codes "RENAME_EXCHANGE") words

-- a call that moved a name
abbrev pub moved : Said → List Act
moved said = (if is_telling said.words then ask (second said.places) false Unclear else []) ++ move (first said.places) (second said.places)

-- a call that made or removed names, or only asked for one
abbrev pub renamed : List ℕ → Said → List Act
renamed name said =
    if is_moving name then moved said else
    if is_linking name then ask (first said.places) (has (codes "AT_SYMLINK_FOLLOW") said.words) Unclear ++ make (second said.places) else
    if is_pointing name then make (second said.places) else
    if is_removing name then remove (first said.places) else
    if is_making name then make (first said.places)
    else ask (first said.places) (follows name said.words) Found

-- a call that did what it says
abbrev pub done : List ℕ → Said → List Act
done name said =
    if is_opening name then opening said.words (first said.places) (follows name said.words) ++ opening said.words (unwrap_or said.opened []) false else
    if is_creating name then write (first said.places) true ++ write (unwrap_or said.opened []) false else
    if is_running name then run (first said.places) else
    if is_cutting name then ask (first said.places) true Unclear ++ write (first said.places) true
    else renamed name said

-- whether it gives a socket an address that is no name of a file
abbrev pub is_elsewhere : List ℕ → Said → Bool
is_elsewhere name said = is_binding name && not (has (codes "sun_path=") said.words)

-- a call whose end isn't known does nothing
abbrev pub acts_of : List ℕ → Said → List Act
acts_of name said =
    if is_elsewhere name said then [] else
    if has_failed said.outcome then failed name said else
    if is_done said.outcome then done name said else []
