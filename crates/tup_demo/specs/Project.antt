-- The small project that a demo shows (own).
use Rattle.std.specs.Prelude.{List, [], ◌∷◌, ◌++◌, codes}
use Rattle.tup_path.specs.Name.{Names, Content}
use Rattle.tup_path.specs.Tree.{Tree, tree_of_files}

-- its Tupfile: one rule, by which `b` is a copy of `a`
abbrev pub demo_tupfile : Content
demo_tupfile = codes ": a |> cp a b |> b" ++ 10 ∷ []

-- its one source
abbrev pub demo_source : Content
demo_source = codes "hi" ++ 10 ∷ []

-- its files
abbrev pub demo_files : List (Names × Content)
demo_files = (codes "Tupfile" ∷ [], demo_tupfile) ∷ (codes "a" ∷ [], demo_source) ∷ []

-- its tree: these files
abbrev pub demo_tree : Tree
demo_tree = tree_of_files demo_files
