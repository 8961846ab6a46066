-- Runs in which each command did what its runner means (own). Contents are those of a list of known ones, in
-- which no two have one stamp.
use Rattle.std.specs.Prelude.{◌≡◌, ℕ, List, [], ◌∷◌, Option, None, Some, All, Contains, map}
use Rattle.std.specs.FinMap as finite
use Rattle.std.specs.Option.{option_map}
use Rattle.tup_path.specs.Name.{Names, Content}
use Rattle.tup_path.specs.Tree.{Tree}
use Rattle.tup_stamp.specs.declared.Stamp.{Stamp}
use Rattle.tup_stamp.specs.Stamp.{stamp}
use Rattle.tup_rule.specs.declared.rule.Rule.{Rule}
use Rattle.tup_runner.specs.Next.{Next, Asks}
use Rattle.tup_runner.specs.Honest.{AsksJust}
use Rattle.tup_runner.specs.declared.step.Answer.{Answer}
use Rattle.tup_runner.specs.declared.step.Answer.TheVariants.{Content as Holds, Absent}
use Rattle.tup_runner.specs.declared.step.Ended.{Ended}
use Rattle.tup_runner.specs.declared.step.Step.TheVariants.{Ask as AsksFor, End}
use Rattle.tup_access.specs.declared.verdict.Verdict.{Verdict}
use Rattle.tup_access.specs.Judge.{judge}
use Rattle.tup_access.specs.Verdict.{verdict}
use Rattle.tup_core.specs.declared.event.CoreEvent.{CoreEvent}
use Rattle.tup_core.specs.declared.event.CoreEvent.TheVariants.{Finish}
use Rattle.tup_core.specs.declared.plan.Plan.{Plan}
use Rattle.tup_core.specs.declared.running.Running.{Running}
use Rattle.tup_core.specs.Step.{State, Runs, after}

-- no two known contents have one stamp
abbrev pub IsKnown : List Content → Type 0
IsKnown known = (one other : Content) → Contains known one → Contains known other → stamp one ≡ stamp other → one ≡ other

-- a stamp stands for this answer: a known content, or no file
abbrev pub StandsFor : List Content → Option Stamp → Answer → Type 0
StandsFor known (Some told) (Holds content) = Contains known content × (told ≡ stamp content)
StandsFor known None Absent = Unit {0}
StandsFor known (Some told) Absent = ⊥
StandsFor known None (Holds content) = ⊥

-- asks with stamps are these asks with answers
abbrev pub AreAnswered : List Content → List (List ℕ × Option Stamp) → Asks → Type 0
AreAnswered known [] [] = Unit {0}
AreAnswered known (ask ∷ asks) (given ∷ answers) = (ask.0 ≡ given.0) × StandsFor known ask.1 given.1 × AreAnswered known asks answers
AreAnswered known [] (given ∷ answers) = ⊥
AreAnswered known (ask ∷ asks) [] = ⊥

-- a command asked just what its seat asked, and was answered so
pub record Answered (next : Next) (known : List Content) (rule : Rule) (running : Running) : Type 0 where
  pub asks : Asks
  pub stamps : AreAnswered known running.asks asks
  pub just : AsksJust (next rule.dir rule.text) asks

-- a file with its content's stamp
abbrev pub stamped : Names × Content → Names × Stamp
stamped file = (file.0, stamp file.1)

-- the end of a command is what its runner means: it asks just the seat's asks, and then what was refused, or it ends
-- and is judged so; what a Good one writes is known
abbrev pub EndsHonestly : Next → List Content → Rule → Running → Option (List ℕ × Verdict) → Verdict → List (Names × Stamp) → Type 0
EndsHonestly next known rule running (Some denied) given writes =
    (answered : Answered next known rule running) × (next rule.dir rule.text answered.asks ≡ AsksFor denied.0)
EndsHonestly next known rule running None given writes =
    (answered : Answered next known rule running) × (ended : Ended) × (next rule.dir rule.text answered.asks ≡ End ended)
    × ((judge rule ended).verdict ≡ given) × (map stamped (judge rule ended).files ≡ writes)
    × All (λ (file : Names × Content). Contains known file.1) (judge rule ended).files

-- each end in a list of events is honest
abbrev pub IsHonest : Next → List Content → Plan → State → List CoreEvent → Type 0
IsHonest next known plan state [] = Unit {0}
IsHonest next known plan state (Finish seat given writes ∷ events) =
    ((running : Running) (rule : Rule) → Runs plan state seat running rule → EndsHonestly next known rule running running.denied given writes)
    × IsHonest next known plan (after plan state (Finish seat given writes)) events
IsHonest next known plan state (event ∷ events) = IsHonest next known plan (after plan state event) events

-- a tree of known contents that has the stamps of these files
pub record IsTreeOf (known : List Content) (files : Names → Option Stamp) (tree : Tree) : Type 0 where
  pub stamps : (path : Names) → option_map stamp (finite.get tree path) ≡ files path
  pub contents : (path : Names) (content : Content) → finite.get tree path ≡ Some content → Contains known content

-- a verdict and what it leaves are those of a rule's command over a tree
abbrev pub IsVerdictOver : Next → List Rule → Rule → Tree → Verdict → List (Names × Stamp) → Type 0
IsVerdictOver next rules rule tree given writes =
    ((verdict next rules rule tree).verdict ≡ given) × (map stamped (verdict next rules rule tree).files ≡ writes)
