-- Why making the files of a rule is refused, and how the site's faults are counted (own).
use Rattle.std.specs.Prelude.{◌≡◌, ◌≢◌, ◌⊎◌, ℕ, ◌≤◌, Bool, true, false, if◌then◌else◌, Option, Some, Result, Ok, Err}
use Rattle.tup_path.specs.Count.{Rose}
use Rattle.tup_site.specs.declared.fault.SiteFailed.{SiteFailed}
use Rattle.tup_site.specs.declared.fault.SiteFailed.TheVariants as site
use Rattle.tup_graph.specs.declared.fault.GraphFault.{GraphFault}
use Rattle.tup_graph.specs.declared.fault.GraphFault.TheVariants as graph
use Rattle.tup_rule_outputs.specs.declared.fault.BoardFault.{BoardFault}
use Rattle.tup_rule_outputs.specs.declared.fault.BoardFault.TheVariants as board
use Rattle.tup_record.specs.declared.run.RunRecord.{RunRecord}
use Rattle.tup_rule_outputs.specs.Lost.{Lost, WasLostToSite}

-- the fault of a board for that of its site
abbrev pub of_site : SiteFailed → BoardFault
of_site site.Fault = board.Site
of_site (site.TooLarge bytes) = board.TooLarge bytes
of_site site.Memory = board.Memory

-- the fault of a board for that of a commit, which isn't one of the first two
abbrev pub of_graph : GraphFault → BoardFault
of_graph graph.NotThere = board.Memory
of_graph (graph.BadStore offset) = board.Memory
of_graph graph.Site = board.Site
of_graph graph.Full = board.Full
of_graph graph.Memory = board.Memory

-- what a commit answers, as a board tells it
abbrev pub told : Result (Unit {0}) GraphFault → Result (Unit {0}) BoardFault
told (Ok done) = Ok done
told (Err fault) = Err (of_graph fault)

-- whether a commit was refused by the site
abbrev pub by_site : GraphFault → Bool
by_site graph.NotThere = false
by_site (graph.BadStore offset) = false
by_site graph.Site = true
by_site graph.Full = false
by_site graph.Memory = false

-- the commit that is lost: one that was lost before, and else one of this rule with this run to keep, where it was refused
-- and the graph isn't fresh any more
abbrev pub lost_now : Bool → Option Lost → ℕ → Option RunRecord → Result (Unit {0}) GraphFault → Option Lost
lost_now fresh before number run (Ok done) = before
lost_now fresh before number run (Err fault) = if fresh then before else Some (record { by_site = by_site fault; rule = number; run = run })

-- what refuses where a commit was lost
abbrev pub lost_fault : Lost → BoardFault
lost_fault lost = if lost.by_site then board.Site else board.Memory

-- the site's count rises where it failed in this call, or did so before, and at no other answer
pub record CountsFaults {T : Type 0} (before now : ℕ) (lost : Option Lost) (result : Result T BoardFault) : Type 0 where
  pub later : before ≤ now
  pub site : result ≡ Err board.Site → Rose before now ⊎ WasLostToSite lost
  pub steady : result ≢ Err board.Site → now ≡ before
