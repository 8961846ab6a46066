-- After a scan and a swap of the rules of the sources just the rules that are reached are flagged.
use Rattle.std.specs.Prelude.{◌≡◌, ◌↔◌, ℕ, true, List, Option, Ok}
use Rattle.std.specs.FinMap as finite
use Rattle.tup_path.specs.Name.{Names, Content}
use Rattle.tup_path.specs.Tree.{Tree}
use Rattle.tup_stamp.specs.declared.Stamp.{Stamp}
use Rattle.tup_rule.specs.declared.question.Reading.{Reading}
use Rattle.tup_rule.specs.declared.rule.Rule.{Rule}
use Rattle.tup_runner.specs.Next.{Next}
use Rattle.tup_project.specs.Project.{ComeTo}
use Rattle.tup_graph.specs.Graph.{GraphState, is_flagged, is_rule, source}
use Rattle.tup_graph.specs.Kept.{IsKept}
use Rattle.tup_graph.specs.Reach.{stamp_in, IsReached}
use Rattle.tup_graph.specs.Records.{Language}
use Rattle.tup_graph.specs.Scan.{IsScanned}
use Rattle.tup_graph.specs.Swap.{IsSwapped}
use Rattle.tup_closure.specs.Readers.{AreRunsOfRules}
use Rattle.tup_law_graph.specs.Linking.{HaveOwnNames, LinksReadings}
use Rattle.tup_law_graph.proofs.Declared.{come_there}
use Rattle.tup_law_graph.proofs.Touched.{reached_scan, scan_reached}
use Rattle.tup_law_graph.proofs.Flagging.{flagged_reached, reached_flagged}
use Rattle.tup_law_graph.proofs.Named.{linked_names}

-- no two rules of a kept graph have one name
kept_names : (next : Next) (language : Language) (known : List Content) (g : GraphState) → LinksReadings language → IsKept next language known g → HaveOwnNames g.rules
kept_names next language known g links kept = linked_names (finite.entries g.readings) g.rules ((links (finite.entries g.readings) g.rules).0 kept.linked)

pub flags_are_reach : (next : Next) (language : Language) (known : List Content) (g scanned swapped : GraphState) (files : List (Names × Stamp)) (config : Option Content) (fresh : List (Names × Reading)) (gone : List Names) (rules : List Rule) (tree sources : Tree) (number : ℕ)
    → LinksReadings language → IsKept next language known g → IsScanned g files config scanned → ((path : Names) → finite.get scanned.seen path ≡ stamp_in tree path)
    → ((path : Names) → source scanned path ≡ stamp_in sources path) → ComeTo sources (Ok rules) → IsSwapped scanned fresh gone rules swapped
    → (is_flagged swapped number ≡ true) ↔ IsReached g tree rules number
flags_are_reach next language known g scanned swapped files config fresh gone rules tree sources number links kept scan as_seen sees come swap =
    let names = kept_names next language known g links kept in
    let there = come_there sources rules come in (
      flagged_reached next language known g scanned swapped files config fresh gone rules tree sources kept scan swap as_seen sees names there number,
      reached_flagged next language known g scanned swapped files config fresh gone rules tree sources kept scan swap as_seen sees names there number,
    )

-- the same of a scan alone
pub scan_flags_are_reach : (next : Next) (language : Language) (known : List Content) (g scanned : GraphState) (files : List (Names × Stamp)) (config : Option Content) (tree : Tree) (number : ℕ)
    → LinksReadings language → IsKept next language known g → ((at : ℕ) → is_flagged g at ≡ true → is_rule g at ≡ true) → AreRunsOfRules g → IsScanned g files config scanned
    → ((path : Names) → finite.get scanned.seen path ≡ stamp_in tree path) → (is_flagged scanned number ≡ true) ↔ IsReached g tree g.rules number
scan_flags_are_reach next language known g scanned files config tree number links kept flags runs scan as_seen =
    let names = kept_names next language known g links kept in (
      scan_reached next language known g scanned files config tree kept scan as_seen names flags runs number,
      reached_scan next language known g scanned files config tree kept scan as_seen names number,
    )
