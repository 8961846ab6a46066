-- Folders of sources that came or went since the graph was scanned (own).
use Rattle.std.specs.Prelude.{◌≡◌, ◌↔◌, false, List, Option, None, Contains}
use Rattle.std.specs.BTreeSet.{BTreeSet}
use Rattle.std.specs.FinMap as finite
use Rattle.tup_path.specs.Name.{Names}
use Rattle.tup_path.specs.Order.{by_names}
use Rattle.tup_stamp.specs.declared.Stamp.{Stamp}
use Rattle.tup_rule.specs.Rule.{writes}
use Rattle.tup_rule.specs.declared.rule.Rule.{Rule}
use Rattle.tup_graph.specs.Answers.{HasSourceBelow}
use Rattle.tup_graph.specs.Graph.{GraphState, source}
use Rattle.tup_graph.specs.Turned.{IsTurned}
use Rattle.tup_scan_diff.specs.Present.{graph_of, over}
use Rattle.tup_scan_diff.specs.Sets.{Has}
use Rattle.tup_scan_diff.specs.declared.present.Present.{Present}
use Rattle.tup_scan_diff.specs.declared.stamps.Stamps.{Stamps}
use Rattle.tup_scan_diff.specs.declared.stamps.Stamps.TheVariants.{Edited, Found}

-- files stand at the same paths, whatever their stamps
abbrev pub AtSamePaths : finite.FinMap by_names Stamp → finite.FinMap by_names Stamp → Type 0
AtSamePaths old new = (path : Names) → finite.contains_key new path ≡ finite.contains_key old path

-- where just some files of a graph have other stamps, no file came or went
abbrev pub AreAtSamePaths : GraphState → Stamps → Type 0
AreAtSamePaths g (Edited stamps) = AtSamePaths g.seen (over g.seen stamps)
AreAtSamePaths g (Found stamps) = Unit {0}

-- a set of the folders that have a source of a graph below them
abbrev pub AreFolders : GraphState → BTreeSet Names → Type 0
AreFolders g folders = (path : Names) → Has by_names folders path ↔ HasSourceBelow (source g) path

-- a set of the paths that became folders of sources, or ceased to be such
abbrev pub AreTurned : GraphState → GraphState → BTreeSet Names → Type 0
AreTurned old new turned = (path : Names) → Has by_names turned path ↔ IsTurned (source old) (source new) path

-- what a scan found has them
abbrev pub HasTurned : Present → Type 0
HasTurned present = AreTurned present.nodes.now (graph_of present) present.turned

-- one of some paths, which a set lacks
abbrev pub IsLacking : BTreeSet Names → List Names → Names → Type 0
IsLacking set paths path = Contains paths path × (Has by_names set path → ⊥)

-- a path that turned, and that is no output of a rule, was told to have no file
abbrev pub IsToldTurned : Present → Rule → Names → Option Stamp → Type 0
IsToldTurned present rule path given = ((given ≡ None) × (writes rule path ≡ false)) × IsTurned (source present.nodes.now) (source (graph_of present)) path

-- one of some asks was told so
abbrev pub AsksTurned : Present → Rule → List (Names × Option Stamp) → Type 0
AsksTurned present rule asks =
    (path : Names) × (Contains asks (path, None) × (writes rule path ≡ false)) × IsTurned (source present.nodes.now) (source (graph_of present)) path
