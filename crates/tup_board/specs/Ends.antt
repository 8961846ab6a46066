-- The good end of a rule in a history, and what the store is told of it (own).
use Rattle.std.specs.Prelude.{◌≡◌, ℕ, List, [], ◌∷◌, ◌++◌, Option, None, Ok, All, map}
use Rattle.tup_path.specs.Name.{Names}
use Rattle.tup_path.specs.Resolve.{resolve}
use Rattle.tup_stamp.specs.declared.Stamp.{Stamp}
use Rattle.tup_rule.specs.declared.rule.Rule.{Rule}
use Rattle.tup_record.specs.declared.run.RunRecord.{RunRecord}
use Rattle.tup_access.specs.declared.verdict.Verdict.{Verdict}
use Rattle.tup_access.specs.declared.verdict.Verdict.TheVariants.{Good}
use Rattle.tup_core.specs.declared.event.CoreEvent.{CoreEvent}
use Rattle.tup_core.specs.declared.event.CoreEvent.TheVariants.{Finish}
use Rattle.tup_core.specs.declared.plan.Plan.{Plan}
use Rattle.tup_core.specs.declared.running.Running.{Running}
use Rattle.tup_core.specs.Step.{State, Runs}
use Rattle.tup_core.specs.Run.{end_of}

-- a text names a path in a folder
abbrev pub IsNamed : Names → List ℕ → Type 0
IsNamed dir text = (path : Names) × (resolve dir text ≡ Ok path)

-- all that a command asked for names paths
abbrev pub AreNamed : Names → List (List ℕ × Option Stamp) → Type 0
AreNamed dir asks = All (λ (ask : List ℕ × Option Stamp). IsNamed dir ask.0) asks

-- what a command asked for is recorded by the paths that its texts name in its folder
abbrev pub AreRecorded : Names → List (List ℕ × Option Stamp) → List (Names × Option Stamp) → Type 0
AreRecorded dir [] [] = Unit {0}
AreRecorded dir (ask ∷ asks) (noted ∷ more) = (resolve dir ask.0 ≡ Ok noted.0) × (noted.1 ≡ ask.1) × AreRecorded dir asks more
AreRecorded dir [] (noted ∷ more) = ⊥
AreRecorded dir (ask ∷ asks) [] = ⊥

-- the command at a seat runs the rule of this number, and if it ends Good now this is the record of its run
pub record IsRecordOf (plan : Plan) (state : State) (seat number : ℕ) (run : RunRecord) : Type 0 where
  pub running : Running
  pub rule : Rule
  pub runs : Runs plan state seat running rule
  pub here : running.rule ≡ number
  pub granted : running.denied ≡ None
  pub asks : AreRecorded rule.dir running.asks run.asks
  pub writes : map (λ (file : Names × Stamp). file.0) run.writes ≡ rule.outputs

-- the rule of this number ended Good in a history, with this record
pub record HasEnded (plan : Plan) (start : State) (history : List CoreEvent) (number : ℕ) (run : RunRecord) : Type 0 where
  pub before : List CoreEvent
  pub after : List CoreEvent
  pub seat : ℕ
  pub whole : history ≡ before ++ Finish seat Good run.writes ∷ after
  pub kept : IsRecordOf plan (end_of plan start before) seat number run

-- it could have ended Good so at some moment, where the ends of its command are told by a runner
pub record CouldEnd (plan : Plan) (start : State) (history : List CoreEvent) (number : ℕ) (run : RunRecord) (Told : Type 0)
    (Ends : Rule → Running → Option (List ℕ × Verdict) → Verdict → List (Names × Stamp) → Type 0) : Type 0 where
  pub before : List CoreEvent
  pub after : List CoreEvent
  pub seat : ℕ
  pub whole : history ≡ before ++ after
  pub kept : IsRecordOf plan (end_of plan start before) seat number run
  pub ended : Told → Ends kept.rule kept.running None Good run.writes
