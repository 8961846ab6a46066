-- Why a board stops, and that it is so (own).
use Rattle.std.specs.Prelude.{◌≡◌, ◌⊎◌, ℕ, ◌<◌, Bool, List, [], ◌∷◌, ◌++◌, length, Option, None, Some, IsTrue}
use Rattle.std.specs.FinMap as finite
use Rattle.tup_path.specs.Count.{Rose}
use Rattle.tup_path.specs.Name.{Names, Content}
use Rattle.tup_stamp.specs.declared.Stamp.{Stamp}
use Rattle.tup_site.specs.Cause.{most_bytes}
use Rattle.tup_site.specs.World.{World}
use Rattle.tup_rule.specs.declared.rule.Rule.{Rule}
use Rattle.tup_access.specs.declared.verdict.Verdict.{Verdict}
use Rattle.tup_access.specs.declared.verdict.Verdict.TheVariants.{Good}
use Rattle.tup_table.specs.Reading.{opened_of}
use Rattle.tup_table.specs.Table.{IsAtRest, entries_in, gate_of}
use Rattle.tup_table.specs.declared.change.Change.{Change}
use Rattle.tup_record.specs.declared.run.RunRecord.{RunRecord}
use Rattle.tup_graph.specs.Opening.{IsGraphOf}
use Rattle.tup_graph.specs.Transactions.{begin_edits, finish_edits}
use Rattle.tup_stored_graph.specs.Held.{Held}
use Rattle.tup_stored_graph.specs.Transaction.{IsFull}
use Rattle.tup_core.specs.declared.event.Cause.{Cause}
use Rattle.tup_core.specs.declared.event.Cause.TheVariants.{Bad, Site, TooLarge, Full, Run, Memory}
use Rattle.tup_core.specs.Run.{end_of}
use Rattle.tup_core.specs.declared.event.CoreEvent.{CoreEvent}
use Rattle.tup_core.specs.declared.event.CoreEvent.TheVariants.{Stop}
use Rattle.tup_core.specs.declared.running.Running.{Running}
use Rattle.tup_rule_outputs.specs.declared.fault.BoardFault.{BoardFault}
use Rattle.tup_rule_outputs.specs.declared.fault.BoardFault.TheVariants as board
use Rattle.tup_board.specs.Board.{BoardState, plan_of, start, state}
use Rattle.tup_board.specs.Outputs.{IsPending}
use Rattle.tup_board.specs.Ends.{IsRecordOf}

-- the events that a refusal adds, where the seat stops by it
abbrev pub stops_by : ℕ → BoardFault → List CoreEvent
stops_by seat board.Site = Stop seat Site ∷ []
stops_by seat (board.TooLarge bytes) = Stop seat (TooLarge bytes) ∷ []
stops_by seat board.Full = Stop seat Full ∷ []
stops_by seat board.Memory = []

-- a file has so many bytes, too many to be read; it is none that is still to be made
pub record HasLargeFile {S : Type 0} (it : BoardState S) (w : World) (bytes : ℕ) : Type 0 where
  pub path : Names
  pub content : Content
  pub here : finite.get w.tree path ≡ Some content
  pub long : length content ≡ bytes
  pub stands : IsPending (plan_of it) (state it) path → ⊥

-- the bytes are a store for which a graph stands
pub record StandsForBytes (graph : Held) (bytes : List ℕ) : Type 0 where
  pub commits : List (List Change)
  pub rests : IsAtRest commits bytes
  pub entries : entries_in graph.table ≡ (opened_of commits).entries
  pub gate : gate_of graph.table ≡ (opened_of commits).gate
  pub nodes : IsGraphOf (entries_in graph.table) graph.nodes

-- a seat was stopped for want of room, and over these bytes there was none for the begin of its rule, or for what its
-- end would keep; and its command ended so, where the ends of commands are told by a runner
pub record HasNoRoom {S : Type 0} (it : BoardState S) (bytes : List ℕ) (Told : Type 0)
    (Ends : Rule → Running → Option (List ℕ × Verdict) → Verdict → List (Names × Stamp) → Type 0) : Type 0 where
  pub graph : Held
  pub stands : StandsForBytes graph bytes
  pub before : List CoreEvent
  pub after : List CoreEvent
  pub seat : ℕ
  pub number : ℕ
  pub run : RunRecord
  pub whole : it.history ≡ before ++ Stop seat Full ∷ after
  pub kept : IsRecordOf (plan_of it) (end_of (plan_of it) (start it) before) seat number run
  pub full : IsFull graph (begin_edits graph.nodes number)
      ⊎ (IsFull graph (finish_edits graph.nodes number run) × (Told → Ends kept.rule kept.running None Good run.writes))

-- a cause is true of a board whose site has had so many faults at the opening and now, tells its world or not, and
-- which a crash since then may leave so, and whose commands end so, where that is told
abbrev pub IsTrueCause : {S : Type 0} → BoardState S → ℕ → ℕ → Bool → World → (World → Type 0) → Type 0
    → (Rule → Running → Option (List ℕ × Verdict) → Verdict → List (Names × Stamp) → Type 0) → Cause → Type 0
IsTrueCause it before now tells world Since Told Ends Site = Rose before now
IsTrueCause it before now tells world Since Told Ends (TooLarge bytes) = (most_bytes < bytes) × (IsTrue tells → HasLargeFile it world bytes)
IsTrueCause it before now tells world Since Told Ends Full = IsTrue tells → (w : World) × Since w × HasNoRoom it w.store Told Ends
IsTrueCause it before now tells world Since Told Ends Bad = Unit {0}
IsTrueCause it before now tells world Since Told Ends Run = Unit {0}
IsTrueCause it before now tells world Since Told Ends Memory = Unit {0}
