-- What happens to the large project: it begins, and is then called seven times, with an edit before four of these calls (own).
use Rattle.std.specs.Prelude.{ℕ, List, [], ◌∷◌, ◌++◌, None, Some, codes}
use Rattle.tup_path.specs.Name.{Content}
use Rattle.tup_site.specs.declared.choice.Deed.TheVariants.{Edit}
use Rattle.tup_history.specs.declared.turn.Turn.{Turn}
use Rattle.tup_history.specs.declared.turn.Turn.TheVariants.{Deed, Run}

-- the program is called with one word
abbrev pub call : List ℕ → Turn
call word = Run (record { 0 = word } ∷ []) None

-- an update
abbrev pub update : Turn
update = call (codes "upd")

-- somebody writes a file of a folder
abbrev pub write : List ℕ → List ℕ → Content → Turn
write folder name content = Deed (Edit (folder ∷ name ∷ []) (Some content))

-- somebody deletes one
abbrev pub delete : List ℕ → List ℕ → Turn
delete folder name = Deed (Edit (folder ∷ name ∷ []) None)

-- the edits, each with an update after it: of a header, of a source, one source more, and one less
abbrev pub edits : List Turn
edits =
    write (codes "inc") (codes "h0.h") (codes "#define H0 1\n") ∷ update
    ∷ write (codes "d0000") (codes "s1.c") (codes "int x;\n") ∷ update
    ∷ write (codes "d0000") (codes "n.c") (codes "int n;\n") ∷ update
    ∷ delete (codes "d0000") (codes "s9.c") ∷ update ∷ []

-- the turns: the project begins, is updated, and updated again; the edits; and at the end it is compared with a clean build
abbrev pub turns : List Turn
turns = call (codes "init") ∷ update ∷ update ∷ edits ++ call (codes "verify") ∷ []

-- the place of the beginning among the turns
abbrev pub beginning : ℕ
beginning = 0

-- the place of the comparison, the last
abbrev pub comparison : ℕ
comparison = 11
