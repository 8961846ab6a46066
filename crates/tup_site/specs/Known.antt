-- The contents that a site knows: every one that ever stood in its tree. By their stamps they are told apart.
use Rattle.std.specs.Prelude.{◌≡◌, ◌⊎◌, Bool, List, Some, IsTrue, bytes_eq}
use Rattle.std.specs.List.{list_any}
use Rattle.std.specs.FinMap as finite
use Rattle.tup_path.specs.Name.{Names, Content}
use Rattle.tup_path.specs.Tree.{Tree}
use Rattle.tup_stamp.specs.Stamp.{stamp}

-- whether a content is among them
abbrev pub knows : List Content → Content → Bool
knows contents content = list_any (bytes_eq content) contents

-- contents of which no two are different and have the same stamp
abbrev pub IsKnown : List Content → Type 0
IsKnown contents = (a b : Content) → IsTrue (knows contents a) → IsTrue (knows contents b) → stamp a ≡ stamp b → a ≡ b

-- a content may join them: none of them is another content with its stamp
abbrev pub MayJoin : List Content → Content → Type 0
MayJoin contents content = (other : Content) → IsTrue (knows contents other) → stamp other ≡ stamp content → other ≡ content

-- the contents of a tree's files are among them
abbrev pub KnowsTree : List Content → Tree → Type 0
KnowsTree contents tree = (path : Names) (content : Content) → finite.get tree path ≡ Some content → IsTrue (knows contents content)

-- none of them is forgotten
abbrev pub Keeps : List Content → List Content → Type 0
Keeps old new = (content : Content) → IsTrue (knows old content) → IsTrue (knows new content)

-- a content is among them, or that of a file of the tree
abbrev pub IsHere : List Content → Tree → Content → Type 0
IsHere contents tree content = IsTrue (knows contents content) ⊎ ((path : Names) × (finite.get tree path ≡ Some content))

-- they and the contents of the tree's files together are such that no two are different and have the same stamp
abbrev pub Joins : List Content → Tree → Type 0
Joins contents tree = (a b : Content) → IsHere contents tree a → IsHere contents tree b → stamp a ≡ stamp b → a ≡ b
