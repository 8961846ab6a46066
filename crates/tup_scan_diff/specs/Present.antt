-- What a scan found, beside the graph that it is compared with (own).
use Rattle.std.specs.Prelude.{Option, None, Some, ◌++◌}
use Rattle.std.specs.FinMap as finite
use Rattle.tup_path.specs.Name.{Content}
use Rattle.tup_path.specs.Order.{by_names}
use Rattle.tup_stamp.specs.declared.Stamp.{Stamp}
use Rattle.tup_graph.specs.Answers.{IsSource, tup_config}
use Rattle.tup_graph.specs.Graph.{GraphState, source}
use Rattle.tup_scan_diff.specs.Index.{IsIndexOf}
use Rattle.tup_scan_diff.specs.Made.{AreMade}
use Rattle.tup_scan_diff.specs.Parents.{AreParents}
use Rattle.tup_scan_diff.specs.Settings.{AreSettings}
use Rattle.tup_scan_diff.specs.declared.present.Present.{Present}
use Rattle.tup_scan_diff.specs.declared.stamps.Stamps.{Stamps}
use Rattle.tup_scan_diff.specs.declared.stamps.Stamps.TheVariants.{Edited, Found}

-- a graph that sees files with these stamps
abbrev pub seeing : GraphState → finite.FinMap by_names Stamp → GraphState
seeing g stamps = record g { seen = stamps }

-- what was found, or else what was there before
abbrev pub or_else : Option Stamp → Option Stamp → Option Stamp
or_else (Some found) before = Some found
or_else None before = before

-- stamps that were seen, where some files have other ones
abbrev pub over : finite.FinMap by_names Stamp → finite.FinMap by_names Stamp → finite.FinMap by_names Stamp
over seen edited = finite.from_entries (finite.entries edited ++ finite.entries seen)

-- the stamps of all files, beside a graph
abbrev pub stamps_from : GraphState → Stamps → finite.FinMap by_names Stamp
stamps_from g (Edited stamps) = over g.seen stamps
stamps_from g (Found stamps) = stamps

-- the stamps that a scan found
abbrev pub stamps_in : Present → finite.FinMap by_names Stamp
stamps_in present = stamps_from present.nodes.now present.stamps

-- the graph of what a scan found
abbrev pub graph_of : Present → GraphState
graph_of present = seeing present.nodes.now (stamps_in present)

-- it is whole: it has an index of the sources, the folders in which their folders stand, the outputs of the readings, and the
-- settings of this content
pub record IsPresent (config : Option Content) (present : Present) : Type 0 where
  pub index : IsIndexOf (IsSource (source (graph_of present))) present.index
  pub parents : AreParents present.index.folders.keys present.parents
  pub made : AreMade present.nodes.now.readings present.made
  pub settings : AreSettings config (source (graph_of present) tup_config) present.settings

-- whatever that content is
abbrev pub IsWhole : Present → Type 0
IsWhole present = (config : Option Content) × IsPresent config present
