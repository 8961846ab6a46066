-- True records: what is kept of a run or a reading is what the runner or the language does over known contents. No tree
-- occurs in it, so no edit and no crash makes it false (own).
use Rattle.std.specs.Prelude.{◌≡◌, ◌⊎◌, true, ◌≤◌, List, [], ◌∷◌, ◌++◌, length, Option, None, Some, Ok, All, Contains, map}
use Rattle.std.proofs.Common.{inl, inr}
use Rattle.tup_path.specs.Name.{Names, Content}
use Rattle.tup_path.specs.Resolve.{resolve}
use Rattle.tup_stamp.specs.declared.Stamp.{Stamp}
use Rattle.tup_stamp.specs.Stamp.{stamp}
use Rattle.tup_rule.specs.Question.{noted}
use Rattle.tup_rule.specs.Rule.{writes}
use Rattle.tup_rule.specs.declared.draft.Draft.{Draft}
use Rattle.tup_rule.specs.declared.question.Question.{Question}
use Rattle.tup_rule.specs.declared.question.Reading.{Reading}
use Rattle.tup_rule.specs.declared.question.Told.{Told}
use Rattle.tup_rule.specs.declared.question.Told.TheVariants as told
use Rattle.tup_rule.specs.declared.rule.Rule.{Rule}
use Rattle.tup_runner.specs.Next.{Next, Asks}
use Rattle.tup_runner.specs.declared.step.Answer.{Answer}
use Rattle.tup_runner.specs.declared.step.Answer.TheVariants.{Content as Holds, Absent}
use Rattle.tup_runner.specs.declared.step.Ended.{Ended}
use Rattle.tup_runner.specs.declared.step.Step.TheVariants.{Ask, End}
use Rattle.tup_access.specs.Judge.{judge}
use Rattle.tup_access.specs.declared.verdict.Verdict.TheVariants.{Good}
use Rattle.tup_record.specs.declared.run.RunRecord.{RunRecord}

-- a recorded stamp stands for this answer: a known content, or no file
abbrev pub IsStampOf : List Content → Option Stamp → Answer → Type 0
IsStampOf known (Some given) (Holds content) = Contains known content × (given ≡ stamp content)
IsStampOf known None Absent = Unit {0}
IsStampOf known (Some given) Absent = ⊥
IsStampOf known None (Holds content) = ⊥

-- asks with their answers are recorded so: their texts resolve to the paths, the stamps stand for the answers, and own
-- outputs are absent
abbrev pub AreRecorded : List Content → Rule → Asks → List (Names × Option Stamp) → Type 0
AreRecorded known rule [] [] = Unit {0}
AreRecorded known rule (ask ∷ asks) (one ∷ recorded) =
    (resolve rule.dir ask.0 ≡ Ok one.0) × IsStampOf known one.1 ask.1 × (writes rule one.0 ≡ true → one.1 ≡ None) × AreRecorded known rule asks recorded
AreRecorded known rule [] (one ∷ recorded) = ⊥
AreRecorded known rule (ask ∷ asks) [] = ⊥

-- behind the first asks a runner asks just the others, in their order
abbrev pub GoesOnAsking : Next → Rule → Asks → Asks → Type 0
GoesOnAsking next rule before [] = Unit {0}
GoesOnAsking next rule before (ask ∷ asks) = (next rule.dir rule.text before ≡ Ask ask.0) × GoesOnAsking next rule (before ++ ask ∷ []) asks

-- a file with its content's stamp
abbrev pub stamped : Names × Content → Names × Stamp
stamped file = (file.0, stamp file.1)

-- a run record is true: over known contents with these stamps its rule's command asks just this, and ends Good with
-- these writes, which are the rule's outputs in their order
pub record IsTrueRun (next : Next) (known : List Content) (rule : Rule) (run : RunRecord) : Type 0 where
  pub asks : Asks
  pub recorded : AreRecorded known rule asks run.asks
  pub just : GoesOnAsking next rule [] asks
  pub few : length asks ≤ 65535
  pub ended : Ended
  pub ends : next rule.dir rule.text asks ≡ End ended
  pub good : (judge rule ended).verdict ≡ Good
  pub files : map stamped (judge rule ended).files ≡ run.writes
  pub known_files : All (λ (file : Names × Content). Contains known file.1) (judge rule ended).files

-- what the language of Tupfiles means to the store. The reading of a folder's Tupfile is a process, as a command is: with what
-- it was told so far it asks one more question, or is over and leaves drafts; None where it has a fault. And the rules that
-- are linked of the readings of a project, in the order of folders; None where they can't be
pub record Language : Type 0 where
  pub next : Names → List (Question × Told) → Option (Question ⊎ List Draft)
  pub linked : List (Names × Reading) → Option (List Rule)

-- behind what it was told first, a reading asks just the others, in their order
abbrev pub GoesOnReading : Language → Names → List (Question × Told) → List (Question × Told) → Type 0
GoesOnReading language dir before [] = Unit {0}
GoesOnReading language dir before (one ∷ more) = (language.next dir before ≡ Some (inl one.0)) × GoesOnReading language dir (before ++ one ∷ []) more

-- a content that was told is known
abbrev pub IsToldKnown : List Content → Told → Type 0
IsToldKnown known (told.Content (Some content)) = Contains known content
IsToldKnown known (told.Content None) = Unit {0}
IsToldKnown known (told.Config value) = Unit {0}
IsToldKnown known (told.Names names) = Unit {0}
IsToldKnown known (told.Kind kind) = Unit {0}

-- a reading record is true: the reading of its folder, told known contents with these stamps, asks just this and leaves
-- its drafts
pub record IsTrueReading (language : Language) (known : List Content) (dir : Names) (reading : Reading) : Type 0 where
  pub told_so : List (Question × Told)
  pub recorded : map (λ (one : Question × Told). (one.0, noted one.1)) told_so ≡ reading.asked
  pub contents : All (λ (one : Question × Told). IsToldKnown known one.1) told_so
  pub just : GoesOnReading language dir [] told_so
  pub leaves : language.next dir told_so ≡ Some (inr reading.drafts)
