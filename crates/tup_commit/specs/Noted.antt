-- What the commit of a list of edits does to a graph and to its store: those of a scan, and those of a swap of rules (own).
use Rattle.std.specs.Prelude.{◌≡◌, ◌⊎◌, List, Option, Result, Err}
use Rattle.tup_path.specs.Name.{Names, Content}
use Rattle.tup_stamp.specs.declared.Stamp.{Stamp}
use Rattle.tup_rule.specs.declared.question.Reading.{Reading}
use Rattle.tup_rule.specs.declared.rule.Rule.{Rule}
use Rattle.tup_graph.specs.Edits.{edited_by}
use Rattle.tup_graph.specs.declared.edit.Edit.{Edit}
use Rattle.tup_graph.specs.declared.fault.GraphFault.{GraphFault}
use Rattle.tup_graph.specs.declared.fault.GraphFault.TheVariants.{Full, Memory}
use Rattle.tup_stored_graph.specs.Held.{Held}
use Rattle.tup_stored_graph.specs.Transaction.{Leaves, IsFull, IsLost}
use Rattle.tup_scan_diff.specs.Edits.{AreScanEdits}
use Rattle.tup_rule_diff.specs.Edits.{AreSwapEdits}

-- such edits are made in one commit, or none of them is; it is Full just where the store has no room for them
pub record MakesEdits {S : Type 0} (Are : List Edit → Type 0) (old new : Held) (before now : S) (result : Result (Unit {0}) GraphFault) : Type 0 where
  pub edits : List Edit
  pub are : Are edits
  pub leaves : Leaves edits (edited_by old.nodes edits) old new before now result
  pub full : IsFull old edits → result ≡ Err Full

-- memory was wanting while such edits were made
abbrev pub LosesEdits : (List Edit → Type 0) → Held → Held → Type 0
LosesEdits Are old new = (edits : List Edit) × Are edits × IsLost edits old new

-- What a call that commits such edits does, by its answer. Where memory is wanting nothing is changed, or the commit failed
-- under way.
abbrev pub Notes : {S : Type 0} → (List Edit → Type 0) → Held → Held → S → S → Result (Unit {0}) GraphFault → Type 0
Notes Are old new before now (Err Memory) = ((new ≡ old) × (now ≡ before)) ⊎ LosesEdits Are old new
Notes Are old new before now result = MakesEdits Are old new before now result

-- taking note of a scan
abbrev pub NotesScan : {S : Type 0} → List (Names × Stamp) → Option Content → Held → Held → S → S → Result (Unit {0}) GraphFault → Type 0
NotesScan files config old new before now result = Notes (AreScanEdits old.nodes files config) old new before now result

-- a swap of rules
abbrev pub SwapsRules : {S : Type 0} → List (Names × Reading) → List Names → List Rule → Held → Held → S → S → Result (Unit {0}) GraphFault → Type 0
SwapsRules fresh gone rules old new before now result = Notes (AreSwapEdits old.nodes fresh gone rules) old new before now result
