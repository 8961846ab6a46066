-- The sources of a project as far as they are known (own).
use Rattle.std.specs.Prelude.{◌≡◌, true, false, List, IsSome}
use Rattle.std.specs.BTreeSet.{contains}
use Rattle.std.specs.FinMap as finite
use Rattle.tup_path.specs.Name.{Names}
use Rattle.tup_path.specs.Order.{by_names}
use Rattle.tup_path.specs.Tree.{Tree}
use Rattle.tup_rule.specs.Rule.{among}
use Rattle.tup_graph.specs.Answers.{tup_config}
use Rattle.tup_graph.specs.Graph.{GraphState}
use Rattle.tup_refresh.specs.declared.fetched.Fetched.{Fetched}
use Rattle.tup_refresh.specs.declared.part.Part.{Part}
use Rattle.tup_refresh.specs.Untouched.{SeesSources}

-- these are the paths of some sources
abbrev pub HasPaths : Tree → Tree → Type 0
HasPaths sources outline = finite.keys outline ≡ finite.keys sources

-- what isn't missing of their contents is known, and what is missing is a source
pub record AreFetched (sources : Tree) (fetched : Fetched) : Type 0 where
  pub known : (path : Names) → contains by_names fetched.missing path ≡ false → finite.get fetched.contents path ≡ finite.get sources path
  pub missing : (path : Names) → contains by_names fetched.missing path ≡ true → IsSome (finite.get sources path)

-- so is what tup.config holds, where it is a source
abbrev pub HasConfig : Tree → Tree → Type 0
HasConfig sources outline = finite.get outline tup_config ≡ finite.get sources tup_config

-- sources are files of a tree
abbrev pub AreFilesOf : Tree → Tree → Type 0
AreFilesOf tree sources = (path : Names) → IsSome (finite.get sources path) → finite.get sources path ≡ finite.get tree path

-- sources that a graph sees, by their paths
pub record IsOutlined (sources outline : Tree) (g : GraphState) : Type 0 where
  pub paths : HasPaths sources outline
  pub stamps : SeesSources sources g

-- no content was asked for
pub record IsUnfetched (paths : List Names) (fetched : Fetched) : Type 0 where
  pub missing : (path : Names) → contains by_names fetched.missing path ≡ among path paths
  pub contents : fetched.contents ≡ finite.empty

-- what is known of them
pub record IsPartOf (sources outline : Tree) (g : GraphState) (fetched : Fetched) : Type 0 where
  pub paths : HasPaths sources outline
  pub stamps : SeesSources sources g
  pub contents : AreFetched sources fetched

-- the same of a part itself
abbrev pub IsPart : Tree → Part → Type 0
IsPart sources part = IsPartOf sources part.outline.now part.nodes.now part.fetched.now
