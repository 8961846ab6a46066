-- Why an update that runs its rules is told that its store is full: there is no room in it for what the run of a rule commits
-- (own).
use Rattle.std.specs.Prelude.{◌≡◌, ◌⊎◌, ℕ, List, Contains}
use Rattle.tup_path.specs.Name.{Content}
use Rattle.tup_site.specs.World.{World}
use Rattle.tup_rule.specs.Rule.{name_of}
use Rattle.tup_rule.specs.declared.rule.Rule.{Rule}
use Rattle.tup_rule.specs.declared.rule.RuleName.{RuleName}
use Rattle.tup_runner.specs.Next.{Next}
use Rattle.tup_record.specs.declared.run.RunRecord.{RunRecord}
use Rattle.tup_graph.specs.Graph.{GraphState}
use Rattle.tup_graph.specs.Kept.{IsRuleAt}
use Rattle.tup_graph.specs.Records.{IsTrueRun}
use Rattle.tup_graph.specs.Transactions.{begin_edits, finish_edits}
use Rattle.tup_graph.specs.declared.edit.Edit.{Edit}
use Rattle.tup_stored_graph.specs.Held.{Held}
use Rattle.tup_stored_graph.specs.Transaction.{IsFull}
use Rattle.tup_board.specs.Cause.{StandsForBytes}
use Rattle.tup_promise.specs.Kept.{AsksFor}

-- what the run of the rule of a number commits: that its outputs are being made, or that they are, with the record of a Good run that
-- its command comes to over known contents
abbrev pub AreOfRun : Next → List Content → GraphState → ℕ → Rule → List Edit → Type 0
AreOfRun next known g number rule edits = (edits ≡ begin_edits g number) ⊎ ((run : RunRecord) × IsTrueRun next known rule run × (edits ≡ finish_edits g number run))

-- The store of a world is that of a graph whose rules are those that the sources of the first world ask for, and has no room for what
-- the run of one of them commits, whose command was run.
pub record LacksRoomToRun (next : Next) (known : List Content) (first w : World) (ran : List RuleName) : Type 0 where
  pub graph : Held
  pub stands : StandsForBytes graph w.store
  pub asked : AsksFor first graph.nodes.rules
  pub number : ℕ
  pub rule : Rule
  pub here : IsRuleAt graph.nodes number rule
  pub was_run : Contains ran (name_of rule)
  pub edits : List Edit
  pub of_run : AreOfRun next known graph.nodes number rule edits
  pub full : IsFull graph edits
