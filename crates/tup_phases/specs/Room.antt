-- Why an update that hasn't come to its rules is told that its store is full: there is no room in it for what is to be
-- committed next (own).
use Rattle.std.specs.Prelude.{◌≡◌, ◌⊎◌, ⊤, List, Ok}
use Rattle.tup_path.specs.Tree.{Tree}
use Rattle.tup_site.specs.World.{World}
use Rattle.tup_rule.specs.declared.rule.Rule.{Rule}
use Rattle.tup_scan.specs.Seen.{IsSeen}
use Rattle.tup_scan.specs.declared.seen.Seen.{Seen}
use Rattle.tup_project.specs.Project.{AreLinked}
use Rattle.tup_graph.specs.Graph.{GraphState}
use Rattle.tup_graph.specs.Transactions.{doom_edits, forget_edits, with_doomed}
use Rattle.tup_graph.specs.declared.edit.Edit.{Edit}
use Rattle.tup_stored_graph.specs.Held.{Held}
use Rattle.tup_stored_graph.specs.Transaction.{IsFull}
use Rattle.tup_scan_diff.specs.Edits.{AreScanEdits}
use Rattle.tup_rule_diff.specs.Edits.{AreSwapEdits}
use Rattle.tup_ledger.specs.Sources.{sources_of}
use Rattle.tup_refresh.specs.Refresh.{IsRefresh}
use Rattle.tup_refresh.specs.declared.refreshed.Refreshed.{Refreshed}
use Rattle.tup_stale.specs.Unmade.{unmade}
use Rattle.tup_board.specs.Cause.{StandsForBytes}
use Rattle.tup_promise.specs.declared.stop.Stop.{Stop}
use Rattle.tup_promise.specs.declared.stop.Stop.TheVariants.{NoStore, BadStore, Sources, UserFile, Bad, Run, Full, Outside}

-- what a scan of a tree finds is noted in a graph
abbrev pub AreScanned : GraphState → Tree → List Edit → Type 0
AreScanned g tree edits = (seen : Seen) × IsSeen tree seen × AreScanEdits g seen.files seen.config edits

-- what the Tupfiles of the sources say by now is put into a graph, with the rules that this comes to
abbrev pub AreBrought : GraphState → Tree → List Edit → Type 0
AreBrought g tree edits =
    (found : Refreshed) × (rules : List Rule) × IsRefresh g (sources_of g tree) (Ok found) × AreLinked found.all rules × AreSwapEdits g found.fresh found.gone rules edits

-- files that no rule makes are to go, or they are gone
abbrev pub AreCleared : GraphState → List Edit → Type 0
AreCleared g edits = (edits ≡ doom_edits g (unmade g)) ⊎ ((was : GraphState) × (g ≡ with_doomed was (unmade was)) × (edits ≡ forget_edits g (unmade was)))

-- what is to be committed next over a graph and a tree
abbrev pub AreNext : GraphState → Tree → List Edit → Type 0
AreNext g tree edits = AreScanned g tree edits ⊎ (AreBrought g tree edits ⊎ AreCleared g edits)

-- the store of a world is that of a graph, and has no room for what is to be committed next
pub record LacksRoom (w : World) : Type 0 where
  pub graph : Held
  pub stands : StandsForBytes graph w.store
  pub edits : List Edit
  pub next : AreNext graph.nodes w.tree edits
  pub full : IsFull graph edits

-- where a stop says that the store is full, that of a world lacks room
abbrev pub FillsStore : World → Stop → Type 0
FillsStore w NoStore = ⊤
FillsStore w (BadStore offset) = ⊤
FillsStore w (Sources fault) = ⊤
FillsStore w (UserFile path written found) = ⊤
FillsStore w (Bad name verdict) = ⊤
FillsStore w Run = ⊤
FillsStore w Full = LacksRoom w
FillsStore w (Outside failed) = ⊤
