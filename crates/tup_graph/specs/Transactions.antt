-- What each transaction does to the graph (own): the edits that it makes, and the graph that it leaves.
-- The beginning of a run keeps the maker that the graph has; only a path that nothing owns gets the rule itself.
use Rattle.std.specs.Prelude.{◌≡◌, ℕ, List, [], ◌∷◌, ◌++◌, Option, None, Some, All, fold, map, filter_map, option_map}
use Rattle.std.specs.FinMap as finite
use Rattle.tup_path.specs.Name.{Names}
use Rattle.tup_path.specs.Order.{by_names}
use Rattle.tup_stamp.specs.declared.Stamp.{Stamp}
use Rattle.tup_record.specs.declared.owned.OwnedState.{OwnedState}
use Rattle.tup_record.specs.declared.owned.OwnedState.TheVariants.{Unsure, Written}
use Rattle.tup_record.specs.declared.record.Record.TheVariants as records
use Rattle.tup_record.specs.declared.run.RunRecord.{RunRecord}
use Rattle.tup_graph.specs.declared.edit.Edit.{Edit}
use Rattle.tup_graph.specs.declared.edit.Edit.TheVariants.{Put, Remove}
use Rattle.tup_graph.specs.declared.owned.Owned.{Owned}
use Rattle.tup_graph.specs.Graph.{GraphState, outputs_of}

-- who makes an output of a rule: its maker as the graph has it, and the rule itself where nothing owns the path yet
abbrev pub maker_of : GraphState → ℕ → Names → Option ℕ
maker_of g number path = elim (finite.get g.owned path) [ Some owned ↦ owned.maker | None ↦ Some number ]

-- an output of a rule in this state
abbrev pub own : GraphState → ℕ → OwnedState → Names → Edit
own g number state path = Put (records.Owned path (maker_of g number path) state)

-- ---- a run begins: the outputs of its rule become unsure
-- each output of the rule, unsure
abbrev pub begin_edits : GraphState → ℕ → List Edit
begin_edits g number = map (own g number Unsure) (outputs_of g number)

-- ---- a run ended well: its rule has this record and is not to be run any more; what it wrote is written so, and seen
-- a file that it wrote is owned as written
abbrev pub written : GraphState → ℕ → Names × Stamp → Edit
written g number file = own g number (Written file.1) file.0

-- and seen with the stamp that it was written with
abbrev pub seen_so : Names × Stamp → Edit
seen_so file = Put (records.Seen file.0 file.1)

-- all of it
abbrev pub finish_edits : GraphState → ℕ → RunRecord → List Edit
finish_edits g number run = map (written g number) run.writes ++ map seen_so run.writes ++ Put (records.Run number run) ∷ Remove (records.Modify number) ∷ []

-- ---- files at owned paths are to go: the paths become unsure
-- one path, if it is owned
abbrev pub doomed : GraphState → Names → Option Edit
doomed g path = option_map (λ (owned : Owned). Put (records.Owned path owned.maker Unsure)) (finite.get g.owned path)

-- all of them
abbrev pub doom_edits : GraphState → List Names → List Edit
doom_edits g paths = filter_map (doomed g) paths

-- ---- paths are owned no longer, and seen no longer
-- one path, if it is owned
abbrev pub disowned : GraphState → Names → Option Edit
disowned g path = option_map (λ (owned : Owned). Remove (records.Owned path owned.maker owned.state)) (finite.get g.owned path)

-- one path, if it was seen
abbrev pub unseen : GraphState → Names → Option Edit
unseen g path = option_map (λ (stamp : Stamp). Remove (records.Seen path stamp)) (finite.get g.seen path)

-- all of them
abbrev pub forget_edits : GraphState → List Names → List Edit
forget_edits g paths = filter_map (disowned g) paths ++ filter_map (unseen g) paths

-- ---- rules are to be run
-- each of them on the modify list
abbrev pub flag_edits : List ℕ → List Edit
flag_edits numbers = map (λ number. Put (records.Modify number)) numbers

-- ==== what they leave

-- owned paths with this state at some of them; makers stay
abbrev pub with_state : GraphState → ℕ → OwnedState → finite.FinMap by_names Owned → Names → finite.FinMap by_names Owned
with_state g number state owned path = finite.insert owned path (record { maker = maker_of g number path; state = state })

-- the outputs of a rule are unsure
abbrev pub begun : GraphState → ℕ → GraphState
begun g number = record g { owned = fold (with_state g number Unsure) g.owned (outputs_of g number) }

-- a rule has a record and isn't flagged, what it wrote is written with these stamps and seen with them
abbrev pub finished : GraphState → ℕ → RunRecord → GraphState
finished g number run = record g {
  runs = finite.insert g.runs number run;
  owned = fold (λ owned (file : Names × Stamp). with_state g number (Written file.1) owned file.0) g.owned run.writes;
  seen = fold (λ seen (file : Names × Stamp). finite.insert seen file.0 file.1) g.seen run.writes;
  flags = finite.remove g.flags number;
}

-- owned paths among which one is unsure, if it is owned
abbrev pub unsure_as : Names → Option Owned → finite.FinMap by_names Owned → finite.FinMap by_names Owned
unsure_as path (Some one) owned = finite.insert owned path (record { maker = one.maker; state = Unsure })
unsure_as path None owned = owned

-- all of these owned paths are unsure
abbrev pub with_doomed : GraphState → List Names → GraphState
with_doomed g paths = record g { owned = fold (λ owned path. unsure_as path (finite.get g.owned path) owned) g.owned paths }

-- paths are neither owned nor seen
abbrev pub with_forgotten : GraphState → List Names → GraphState
with_forgotten g paths = record g { owned = fold finite.remove g.owned paths; seen = fold finite.remove g.seen paths }

-- rules are flagged
abbrev pub with_flagged : GraphState → List ℕ → GraphState
with_flagged g numbers = record g { flags = fold (λ flags number. finite.insert flags number tt) g.flags numbers }

-- ==== where they may be made

-- the run record's writes name the outputs of the rule in their order, and these are unsure
pub record CanFinish (g : GraphState) (number : ℕ) (run : RunRecord) : Type 0 where
  pub outputs : map (λ (file : Names × Stamp). file.0) run.writes ≡ outputs_of g number
  pub unsure : All (λ path. (owned : Owned) × (finite.get g.owned path ≡ Some owned) × (owned.state ≡ Unsure)) (outputs_of g number)
