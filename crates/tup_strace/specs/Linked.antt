-- Places that lead through the links of `/proc`: `cwd` of a process to the folder in which it works, and `root` to the root of the
-- system, which each process has.
use Rattle.std.specs.Prelude.{ℕ, ◌==◌, ◌||◌, Bool, true, if◌then◌else◌, List, [], ◌∷◌, ◌++◌, length, take, drop, Option, Some, None, codes, bytes_eq, nat_eq, position, unwrap_or}
use Rattle.std.specs.Cmp.Lexicographic.{pointwise}
use Rattle.tup_strace.specs.Folders.{is_known, folder_of}
use Rattle.tup_strace.specs.declared.folders.Folders.{Folders}

-- the rest of a text that begins so
abbrev pub behind : List ℕ → List ℕ → Option (List ℕ)
behind front text = if pointwise nat_eq (take (length front) text) front then Some (drop (length front) text) else None

-- whether a byte is a slash
abbrev pub is_slash : ℕ → Bool
is_slash byte = byte == 47

-- whether a name is over before this text
abbrev pub is_over : List ℕ → Bool
is_over [] = true
is_over (byte ∷ more) = is_slash byte

-- what stands behind a name of a place: nothing, or more names
abbrev pub below : List ℕ → List ℕ → Option (List ℕ)
below name text = by (behind name text)
  where
    by : Option (List ℕ) → Option (List ℕ)
    by None = None
    by (Some rest) = if is_over rest then Some rest else None

-- where the first name of a text ends
abbrev pub end_of_name : List ℕ → ℕ
end_of_name text = unwrap_or (position is_slash text) (length text)

-- whether the name of a process is that of the one that says it
abbrev pub is_self : List ℕ → Bool
is_self name = bytes_eq name (codes "self") || bytes_eq name (codes "thread-self")

-- the place to which the rest of a place leads behind the name of a process that works in this folder
abbrev pub leads_from : List ℕ → List ℕ → Option (List ℕ)
leads_from folder rest = by (below (codes "/cwd") rest) (below (codes "/root") rest)
  where
    by : Option (List ℕ) → Option (List ℕ) → Option (List ℕ)
    by (Some more) root = Some (folder ++ more)
    by None (Some more) = Some (codes "/" ++ more)
    by None None = None

-- the same behind the number of a process; one of which nothing is known leads nowhere
abbrev pub leads_named : Folders → List ℕ → List ℕ → Option (List ℕ)
leads_named folders name rest = if is_known folders name then leads_from (folder_of folders name) rest else None

-- the place to which a place leads that a process says, if it leads through `/proc`
abbrev pub leads : Folders → List ℕ → List ℕ → Option (List ℕ)
leads folders process place = by (behind (codes "/proc/") place)
  where
    by : Option (List ℕ) → Option (List ℕ)
    by None = None
    by (Some rest) =
        let name = take (end_of_name rest) rest in
        if is_self name || bytes_eq name process then leads_from (folder_of folders process) (drop (end_of_name rest) rest)
        else leads_named folders name (drop (end_of_name rest) rest)

-- the place to which a place leads that a process says
abbrev pub led : Folders → List ℕ → List ℕ → List ℕ
led folders process place = unwrap_or (leads folders process place) place
