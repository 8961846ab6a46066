-- What a call says: the places that it names, its flags, and how it ended. A text names a place from the descriptor right
-- before it, and else from the working folder of its process.
use Rattle.std.specs.Prelude.{ℕ, ◌==◌, Bool, false, if◌then◌else◌, List, [], ◌∷◌, ◌++◌, fold, Some, None, codes, bytes_eq, unwrap_or}
use Rattle.tup_trace.specs.declared.token.Token.{Token}
use Rattle.tup_trace.specs.declared.token.Token.TheVariants.{Word, Quoted, Place}
use Rattle.tup_strace.specs.Folders.{folder_of}
use Rattle.tup_strace.specs.Linked.{led}
use Rattle.tup_strace.specs.declared.folders.Folders.{Folders}
use Rattle.tup_strace.specs.declared.said.Said.{Said}
use Rattle.tup_strace.specs.declared.said.Stretch.{Stretch}
use Rattle.tup_strace.specs.declared.said.Stretch.TheVariants as stretch

-- whether a text begins at the root of the system
abbrev pub is_whole : List ℕ → Bool
is_whole [] = false
is_whole (byte ∷ more) = byte == 47

-- the place that a text names from a folder; the empty text names none
abbrev pub place_from : List ℕ → List ℕ → List ℕ
place_from folder [] = []
place_from folder (byte ∷ more) = if byte == 47 then byte ∷ more else folder ++ 47 ∷ byte ∷ more

-- a call of which nothing was read
abbrev pub nothing_said : Said
nothing_said = record { stretch = stretch.Arguments; places = []; words = []; base = None; outcome = None; opened = None; fault = None }

-- a descriptor's path, from which the next text names its place
abbrev pub based : Said → List ℕ → Said
based said path = record said { base = if is_whole path then Some path else None }

-- a text that names a place
abbrev pub naming : Folders → List ℕ → Said → List ℕ → Said
naming folders process said text =
    let place = place_from (unwrap_or said.base (folder_of folders process)) text in
    record said { places = said.places ++ led folders process place ∷ []; base = None }

-- a word among the arguments, or the one that ends them
abbrev pub wording : Said → List ℕ → Said
wording said word =
    if bytes_eq word (codes "=") then record said { stretch = stretch.Outcome }
    else record said { words = said.words ++ word ∷ []; base = None }

-- a part among the arguments: a flag, a text or a descriptor
abbrev pub in_arguments : Folders → List ℕ → Said → Token → Said
in_arguments folders process said (Word word) = wording said word
in_arguments folders process said (Quoted text) = naming folders process said text
in_arguments folders process said (Place path) = based said path

-- the number that the call gave
abbrev pub in_outcome : Said → Token → Said
in_outcome said (Word word) = record said { stretch = stretch.Opened; outcome = Some word }
in_outcome said other = record said { stretch = stretch.Over }

-- the path of the descriptor that it gave, or the name of its error
abbrev pub in_opened : Said → Token → Said
in_opened said (Place path) = record said { stretch = stretch.Over; opened = Some path }
in_opened said (Word word) = record said { stretch = stretch.Over; fault = Some word }
in_opened said (Quoted text) = record said { stretch = stretch.Over }

-- a part more
abbrev pub with_token : Folders → List ℕ → Said → Token → Said
with_token folders process said token = read said.stretch
  where
    read : Stretch → Said
    read stretch.Arguments = in_arguments folders process said token
    read stretch.Outcome = in_outcome said token
    read stretch.Opened = in_opened said token
    read stretch.Over = said

-- what a call of a process with these parts says, where the processes work in these folders
abbrev pub said_of : Folders → List ℕ → List Token → Said
said_of folders process parts = fold (with_token folders process) nothing_said parts
