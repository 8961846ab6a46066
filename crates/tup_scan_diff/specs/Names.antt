-- The names of the files in a folder (own).
use Rattle.std.specs.Prelude.{List, ℕ, [], ◌∷◌, ◌++◌, Contains}
use Rattle.tup_path.specs.Name.{Names}
use Rattle.tup_rule.specs.declared.draft.Draft.{Draft}
use Rattle.tup_graph.specs.Answers.{IsOutputFor}
use Rattle.tup_graph.specs.Graph.{source}
use Rattle.tup_scan_diff.specs.Present.{graph_of}
use Rattle.tup_scan_diff.specs.declared.present.Present.{Present}

-- a path of some stands in a folder with this name
abbrev pub IsIn : List Names → Names → List ℕ → Type 0
IsIn paths dir name = Contains paths (dir ++ name ∷ [])

-- an output of some drafts does
abbrev pub IsDraftedIn : List Draft → Names → List ℕ → Type 0
IsDraftedIn drafts dir name = (draft : Draft) × Contains drafts draft × IsIn draft.outputs dir name

-- an output that the reading of a folder (reader) is told of in a folder does
abbrev pub IsOutputIn : Present → Names → Names → List ℕ → Type 0
IsOutputIn present reader dir name = IsOutputFor (source (graph_of present)) present.nodes.now.readings reader dir (dir ++ name ∷ [])
