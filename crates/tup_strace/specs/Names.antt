-- The calls of a traced program, by their names and flags.
use Rattle.std.specs.Prelude.{ℕ, ◌||◌, Bool, List, codes, bytes_eq}
use Rattle.std.specs.List.{list_any}

-- calls that open a file
abbrev pub is_opening : List ℕ → Bool
is_opening name = bytes_eq name (codes "open") || bytes_eq name (codes "openat") || bytes_eq name (codes "openat2")

-- a call that makes a file and opens it
abbrev pub is_creating : List ℕ → Bool
is_creating name = bytes_eq name (codes "creat")

-- calls that give a file another name
abbrev pub is_moving : List ℕ → Bool
is_moving name = bytes_eq name (codes "rename") || bytes_eq name (codes "renameat") || bytes_eq name (codes "renameat2")

-- calls that give a file a second name
abbrev pub is_linking : List ℕ → Bool
is_linking name = bytes_eq name (codes "link") || bytes_eq name (codes "linkat")

-- calls that make a symbolic link
abbrev pub is_pointing : List ℕ → Bool
is_pointing name = bytes_eq name (codes "symlink") || bytes_eq name (codes "symlinkat")

-- calls that take a name away
abbrev pub is_removing : List ℕ → Bool
is_removing name = bytes_eq name (codes "unlink") || bytes_eq name (codes "unlinkat") || bytes_eq name (codes "rmdir")

-- a call that gives a socket its address
abbrev pub is_binding : List ℕ → Bool
is_binding name = bytes_eq name (codes "bind")

-- calls that make a folder, a special file or the name of a socket
abbrev pub is_making : List ℕ → Bool
is_making name = bytes_eq name (codes "mkdir") || bytes_eq name (codes "mkdirat") || bytes_eq name (codes "mknod") || bytes_eq name (codes "mknodat") || is_binding name

-- calls that cut a file off at a length
abbrev pub is_cutting : List ℕ → Bool
is_cutting name = bytes_eq name (codes "truncate") || bytes_eq name (codes "truncate64")

-- calls that run a program
abbrev pub is_running : List ℕ → Bool
is_running name = bytes_eq name (codes "execve") || bytes_eq name (codes "execveat")

-- calls that make a process
abbrev pub is_forking : List ℕ → Bool
is_forking name = bytes_eq name (codes "clone") || bytes_eq name (codes "clone3") || bytes_eq name (codes "fork") || bytes_eq name (codes "vfork")

-- a call that enters a folder by its path
abbrev pub is_entering : List ℕ → Bool
is_entering name = bytes_eq name (codes "chdir")

-- a call that enters a folder by its descriptor
abbrev pub is_returning : List ℕ → Bool
is_returning name = bytes_eq name (codes "fchdir")

-- calls that look at a link itself and not at what it leads to
abbrev pub is_looking : List ℕ → Bool
is_looking name =
    bytes_eq name (codes "lstat") || bytes_eq name (codes "readlink") || bytes_eq name (codes "readlinkat") || bytes_eq name (codes "lchown")
    || bytes_eq name (codes "lgetxattr") || bytes_eq name (codes "llistxattr") || bytes_eq name (codes "lsetxattr") || bytes_eq name (codes "lremovexattr")

-- calls that read where a link leads
abbrev pub is_reading_link : List ℕ → Bool
is_reading_link name = bytes_eq name (codes "readlink") || bytes_eq name (codes "readlinkat")

-- whether a flag is among words
abbrev pub has : List ℕ → List (List ℕ) → Bool
has flag words = list_any (λ word. bytes_eq word flag) words
