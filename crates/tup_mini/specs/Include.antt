-- How the lines `#include "x"` of a file are replaced (own).
use Rattle.std.specs.Prelude.{◌==◌, ◌-◌, ℕ, zero, suc, Bool, not, ◌&&◌, if◌then◌else◌, List, [], ◌∷◌, ◌++◌, take, drop, length, Option, None, Some, codes, bytes_eq}
use Rattle.std.specs.List.{list_any, onto_first}
use Rattle.std.specs.Str.{is_utf8}
use Rattle.tup_path.specs.Name.{Content}
use Rattle.tup_mini.specs.Part.{Part, ◌>>=◌, gives, stops}
use Rattle.tup_mini.specs.Files.{needs}

-- the lines of a file, each with its line feed, which the last may lack
abbrev pub lines_of : Content → List (List ℕ)
lines_of [] = []
lines_of (b ∷ content) = if b == 10 then (b ∷ []) ∷ lines_of content else onto_first b (lines_of content)

-- a line without its line feed
abbrev pub unended : List ℕ → List ℕ
unended [] = []
unended (b ∷ []) = if b == 10 then [] else b ∷ []
unended (b ∷ c ∷ line) = b ∷ unended (c ∷ line)

-- the line that includes a file
abbrev pub include_of : List ℕ → List ℕ
include_of name = codes "#include " ++ 34 ∷ (name ++ 34 ∷ [])

-- what a line would include
abbrev pub between : List ℕ → List ℕ
between line = take (length line - 11) (drop 10 line)

-- a name that may be included: UTF-8, not empty, and without a quote
abbrev pub is_included : List ℕ → Bool
is_included name = not (length name == 0) && not (list_any (λ b. b == 34) name) && is_utf8 name

-- the file that a line includes: the line is exactly `#include "x"`
abbrev pub included : List ℕ → Option (List ℕ)
included line = if bytes_eq line (include_of (between line)) && is_included (between line) then Some (between line) else None

-- a text up to and with its last slash, if it has one
abbrev pub folder_part : List ℕ → List ℕ
folder_part [] = []
folder_part (b ∷ text) = if list_any (λ c. c == 47) (b ∷ text) then b ∷ folder_part text else []

-- the lines of the file of a text, written behind a front; `include` writes an included file there
abbrev pub expands : (List ℕ → Content → Part Content) → List ℕ → Content → List (List ℕ) → Part Content
expands include text front [] = gives front
expands include text front (line ∷ lines) =
    elim (included (unended line)) [
      | None ↦ expands include text (front ++ line) lines
      | Some name ↦ include (folder_part text ++ name) front >>= λ grown. expands include text grown lines
    ]

-- a file is included, below which so many more may stand; one that would stand deeper gives status 1 and isn't asked
abbrev pub includes : ℕ → List ℕ → Content → Part Content
includes zero text front = stops 1
includes (suc left) text front = needs text >>= λ content. expands (includes left) text front (lines_of content)
