-- What a command under way keeps (own): its folder, its writes in the order of the first to each path, how often it
-- read one of them, how often it asked for another file, and the text of the first that it asked for.
-- A text that names no path is never read back, and is there once for each write.
use Rattle.std.specs.Prelude.{ℕ, ◌+◌, Bool, false, if◌then◌else◌, List, [], ◌∷◌, ◌++◌, Option, None, Some}
use Rattle.std.specs.Result.{result_ok}
use Rattle.tup_path.specs.Name.{Names, Content}
use Rattle.tup_path.specs.Order.{same_path}
use Rattle.tup_path.specs.Resolve.{resolve}

-- the files that were written, each by the text of the first write to its path, with its last content
abbrev pub Writes : Type 0
Writes = List (List ℕ × Content)

-- what a command under way keeps
pub record Kept : Type 0 where
  pub dir : Names
  pub writes : Writes
  pub own_reads : ℕ
  pub asked : ℕ
  pub first : Option (List ℕ)

-- nothing was written yet, and no file asked for
abbrev pub nothing : Names → Kept
nothing dir = record { dir = dir; writes = []; own_reads = 0; asked = 0; first = None }

-- the first text that was asked for, or this one where none was
abbrev pub first_text : Option (List ℕ) → List ℕ → List ℕ
first_text None text = text
first_text (Some first) text = first

-- what is kept after one more ask
abbrev pub with_ask : List ℕ → Kept → Kept
with_ask text kept = record kept { asked = kept.asked + 1; first = Some (first_text kept.first text) }

-- the path that a text names, if any
abbrev pub path_of : Names → List ℕ → Option Names
path_of dir text = result_ok (resolve dir text)

-- whether a text names a path
abbrev pub names : Names → List ℕ → Names → Bool
names dir text path = elim (path_of dir text) [ Some found ↦ same_path found path | None ↦ false ]

-- what was written to a path
abbrev pub content_of : Names → Writes → Names → Option Content
content_of dir [] path = None
content_of dir (write ∷ writes) path = if names dir write.0 path then Some write.1 else content_of dir writes path

-- what was written to the path of a text
abbrev pub own_content : Names → Writes → List ℕ → Option Content
own_content dir writes text = elim (path_of dir text) [ Some path ↦ content_of dir writes path | None ↦ None ]

-- the writes with one more to a path, which keeps its place and its first text
abbrev pub rewritten : Names → Writes → Names → List ℕ → Content → Writes
rewritten dir [] path text content = (text, content) ∷ []
rewritten dir (write ∷ writes) path text content =
    if names dir write.0 path then (write.0, content) ∷ writes else write ∷ rewritten dir writes path text content

-- the writes with one more to a text; one that names no path is kept as it stands
abbrev pub with_write : Names → Writes → List ℕ → Content → Writes
with_write dir writes text content =
    elim (path_of dir text) [ Some path ↦ rewritten dir writes path text content | None ↦ writes ++ (text, content) ∷ [] ]
