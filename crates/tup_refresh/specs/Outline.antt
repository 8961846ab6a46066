-- The sources that a graph sees, in order (own).
use Rattle.std.specs.Prelude.{if◌then◌else◌, List, [], ◌∷◌, ◌++◌, Option, unwrap_or}
use Rattle.tup_path.specs.Name.{Names, Content}
use Rattle.tup_path.specs.Order.{same_path}
use Rattle.tup_stamp.specs.declared.Stamp.{Stamp}
use Rattle.tup_graph.specs.Graph.{GraphState, is_owned}

-- what is known of the content at a path: at the path of tup.config the one that is given, elsewhere nothing
abbrev pub content_in : Names → Option Content → Names → Content
content_in top config path = if same_path path top then unwrap_or config [] else []

-- a path with what is known of its content, unless the graph owns it
abbrev pub source_in : GraphState → Names → Option Content → Names → List (Names × Content)
source_in g top config path = if is_owned g path then [] else (path, content_in top config path) ∷ []

-- those among some files
abbrev pub outline_of : GraphState → Names → Option Content → List (Names × Stamp) → List (Names × Content)
outline_of g top config [] = []
outline_of g top config (file ∷ files) = source_in g top config file.0 ++ outline_of g top config files
