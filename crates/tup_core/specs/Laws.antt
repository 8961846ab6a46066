-- What every run of the core keeps, whichever seats make the claims and in whichever order (own).
use Rattle.std.specs.Prelude.{◌≡◌, ℕ, ◌<◌, true, false, List, [], ◌∷◌, ◌++◌, Some, All, Contains, length, nat_eq, slice_get}
use Rattle.std.specs.FinMap as finite
use Rattle.std.specs.List.{IsDistinct}
use Rattle.std.specs.Option.{option_map}
use Rattle.tup_path.specs.Name.{Names, Content}
use Rattle.tup_path.specs.Tree.{Tree}
use Rattle.tup_stamp.specs.declared.Stamp.{Stamp}
use Rattle.tup_stamp.specs.Stamp.{stamp}
use Rattle.tup_rule.specs.declared.rule.Rule.{Rule}
use Rattle.tup_rule.specs.Rule.{writes}
use Rattle.tup_rule.specs.Producer.{DeclaredProducer}
use Rattle.tup_runner.specs.Next.{Next}
use Rattle.tup_access.specs.declared.verdict.Verdict.{Verdict}
use Rattle.tup_clean.specs.Clean.{Build, good_at, succeeds}
use Rattle.tup_clean.specs.AnyOrder.{AreProducersGood}
use Rattle.tup_core.specs.declared.event.CoreEvent.{CoreEvent}
use Rattle.tup_core.specs.declared.event.CoreEvent.TheVariants.{Finish}
use Rattle.tup_core.specs.declared.plan.Plan.{Plan}
use Rattle.tup_core.specs.declared.running.Running.{Running}
use Rattle.tup_core.specs.Step.{State, opening, is_reached, IsClear, Runs, FitsEnd, after}
use Rattle.tup_core.specs.Run.{IsRun, end_of, claims, seat_of}
use Rattle.tup_core.specs.Honest.{IsKnown, EndsHonestly, IsHonest, IsTreeOf, IsVerdictOver}
use Rattle.tup_core.specs.Kept.{Kept}
use Rattle.tup_core.specs.Planned.{IsPlanned, clean_of}
use Rattle.tup_core.specs.Settled.{IsSettled}
use Rattle.tup_core.specs.Sound.{HasOneMaker, IsAcyclic, IsInRange, Stands, IsQuiet, IsStuck}

-- the same of the end of each run from an opening, whose premise on the plan holds
abbrev pub AtEachEnd : (Plan → Type 0) → (Plan → State → Type 0) → Type 0
AtEachEnd Premise Claim =
    (plan : Plan) (files : List (Names × Stamp)) (events : List CoreEvent) → Premise plan → IsRun plan (opening plan files) events
    → Claim plan (end_of plan (opening plan files) events)

-- no rule is claimed twice
abbrev pub ClaimsOnce : Type 0
ClaimsOnce = (plan : Plan) (files : List (Names × Stamp)) (events : List CoreEvent) → IsRun plan (opening plan files) events → IsDistinct nat_eq (claims events)

-- only rules of the reach are claimed
abbrev pub ClaimsReached : Type 0
ClaimsReached =
    (plan : Plan) (files : List (Names × Stamp)) (events : List CoreEvent) → IsRun plan (opening plan files) events → All (λ at. is_reached plan at ≡ true) (claims events)

-- a rule at this place among those that were claimed, in their order
abbrev pub IsClaimed : List CoreEvent → ℕ → ℕ → Type 0
IsClaimed events place at = slice_get (claims events) place ≡ Some at

-- a declared producer that is claimed is claimed before
abbrev pub ClaimsInOrder : Type 0
ClaimsInOrder = (plan : Plan) (files : List (Names × Stamp)) (events : List CoreEvent) → IsRun plan (opening plan files) events
    → (sooner later at other : ℕ) (rule : Rule) → IsClaimed events later at → slice_get plan.rules at ≡ Some rule → DeclaredProducer plan.rules rule other
    → IsClaimed events sooner other → sooner < later

-- and each that is to be run is claimed
abbrev pub ProducersClaimed : Type 0
ProducersClaimed = (plan : Plan) (files : List (Names × Stamp)) (events : List CoreEvent) → IsRun plan (opening plan files) events
    → (later at other : ℕ) (rule : Rule) → IsClaimed events later at → slice_get plan.rules at ≡ Some rule → DeclaredProducer plan.rules rule other
    → is_reached plan other ≡ true → (sooner : ℕ) × (sooner < later) × IsClaimed events sooner other

-- where one seat alone makes the claims, and the plan doesn't keep going, nothing is claimed after a bad rule
abbrev pub BadIsLast : Type 0
BadIsLast = (plan : Plan) (files : List (Names × Stamp)) (events : List CoreEvent) (seat : ℕ) → IsRun plan (opening plan files) events
    → All (λ event. seat_of event ≡ seat) events → plan.keep_going ≡ false
    → (at : ℕ) (given : Verdict) → (end_of plan (opening plan files) events).bad at ≡ Some given → (front : List ℕ) × (claims events ≡ front ++ at ∷ [])

-- what a seat's command was answered stands; a seat keeps its asks until its Finish or a Stop
abbrev pub AsksStand : Type 0
AsksStand = AtEachEnd HasOneMaker (λ plan state. (seat : ℕ) (running : Running) (rule : Rule) → Runs plan state seat running rule → All (Stands plan state rule) running.asks)

-- a rule never waits for nothing
abbrev pub NeverStuck : Type 0
NeverStuck = AtEachEnd (λ plan. IsAcyclic plan.rules × IsInRange plan) (λ plan state. IsStuck plan state → ⊥)

-- in a run each command ends with the verdict that its rule has in a build
abbrev pub EndAsIn : Build → Plan → State → List CoreEvent → Type 0
EndAsIn build plan state [] = Unit {0}
EndAsIn build plan state (Finish seat given writes ∷ events) =
    ((running : Running) → state.seats seat ≡ Some running → slice_get build.verdicts running.rule ≡ Some (Some given))
    × EndAsIn build plan (after plan state (Finish seat given writes)) events
EndAsIn build plan state (event ∷ events) = EndAsIn build plan (after plan state event) events

-- the same of each honest run from a planned opening
abbrev pub InHonestRuns : (Next → List Content → Kept → Tree → Plan → List (Names × Stamp) → List CoreEvent → Type 0) → Type 0
InHonestRuns Claim =
    (next : Next) (known : List Content) (kept : Kept) (tree : Tree) (plan : Plan) (files : List (Names × Stamp)) (events : List CoreEvent)
    → IsPlanned next known kept tree plan files → IsRun plan (opening plan files) events → IsHonest next known plan (opening plan files) events
    → Claim next known kept tree plan files events

-- a rule that isn't to be run, and whose declared producers are all Good in the clean build, is Good in it, and the
-- opening's files are what it leaves there
abbrev pub UnreachedStand : Type 0
UnreachedStand =
    (next : Next) (known : List Content) (kept : Kept) (tree : Tree) (plan : Plan) (files : List (Names × Stamp)) (at : ℕ) (rule : Rule)
    → IsPlanned next known kept tree plan files → slice_get plan.rules at ≡ Some rule → is_reached plan at ≡ false
    → AreProducersGood plan.rules (clean_of next kept tree plan).verdicts rule
    → (good_at (clean_of next kept tree plan).verdicts at ≡ true)
    × ((path : Names) → writes rule path ≡ true → (opening plan files).files path ≡ option_map stamp (finite.get (clean_of next kept tree plan).tree path))

-- each command ends with the verdict that its rule has in the clean build of the sources
abbrev pub EndsAreClean : Type 0
EndsAreClean = InHonestRuns (λ next known kept tree plan files events. EndAsIn (clean_of next kept tree plan) plan (opening plan files) events)

-- and so are the bad verdicts at the end
abbrev pub BadsAreClean : Type 0
BadsAreClean = InHonestRuns (λ next known kept tree plan files events. (at : ℕ) (given : Verdict)
    → (end_of plan (opening plan files) events).bad at ≡ Some given → slice_get (clean_of next kept tree plan).verdicts at ≡ Some (Some given))

-- at an end with nothing pending the clean build of the sources succeeds, and the files are its tree's
abbrev pub EndsInClean : Type 0
EndsInClean = InHonestRuns (λ next known kept tree plan files events. ((at : ℕ) → (end_of plan (opening plan files) events).pending at ≡ false)
    → (succeeds (clean_of next kept tree plan) ≡ true)
    × ((path : Names) → (end_of plan (opening plan files) events).files path ≡ option_map stamp (finite.get (clean_of next kept tree plan).tree path)))

-- and the contents of its tree are known
abbrev pub CleanIsKnown : Type 0
CleanIsKnown = InHonestRuns (λ next known kept tree plan files events. ((at : ℕ) → (end_of plan (opening plan files) events).pending at ≡ false)
    → (path : Names) (content : Content) → finite.get (clean_of next kept tree plan).tree path ≡ Some content → Contains known content)

-- a rule that was to be run and isn't pending any more is settled in the clean build of the sources
abbrev pub SettledAreClean : Type 0
SettledAreClean = InHonestRuns (λ next known kept tree plan files events. (at : ℕ) (rule : Rule) → slice_get plan.rules at ≡ Some rule
    → is_reached plan at ≡ true → (end_of plan (opening plan files) events).pending at ≡ false
    → IsSettled known (clean_of next kept tree plan) (end_of plan (opening plan files) events).files at rule)

-- and so is any rule, if neither it nor a declared producer of it is pending
abbrev pub ClearAreClean : Type 0
ClearAreClean = InHonestRuns (λ next known kept tree plan files events. (at : ℕ) (rule : Rule) → slice_get plan.rules at ≡ Some rule
    → (end_of plan (opening plan files) events).pending at ≡ false → IsClear plan (end_of plan (opening plan files) events) rule
    → IsSettled known (clean_of next kept tree plan) (end_of plan (opening plan files) events).files at rule)

-- there are such runs: over a project with a rule that needn't be run and one that must be, to an end with nothing pending
abbrev pub SomeHonestRun : Type 0
SomeHonestRun =
    (next : Next) × (known : List Content) × (kept : Kept) × (tree : Tree) × (plan : Plan) × (files : List (Names × Stamp)) × (events : List CoreEvent)
    × IsPlanned next known kept tree plan files × IsRun plan (opening plan files) events × IsHonest next known plan (opening plan files) events
    × ((at : ℕ) → (end_of plan (opening plan files) events).pending at ≡ false)
    × (is_reached plan 0 ≡ false) × (is_reached plan 1 ≡ true) × (length plan.rules ≡ 2)

-- where all is quiet each rule to be run was claimed whose declared producers are all Good in the clean build
abbrev pub AllAreClaimed : Type 0
AllAreClaimed = InHonestRuns (λ next known kept tree plan files events. IsQuiet plan (end_of plan (opening plan files) events)
    → (at : ℕ) (rule : Rule) → slice_get plan.rules at ≡ Some rule → is_reached plan at ≡ true
    → AreProducersGood plan.rules (clean_of next kept tree plan).verdicts rule → (end_of plan (opening plan files) events).claimed at ≡ true)

-- an honest end has the verdict, and leaves the stamps, that its rule's command has over a tree with the files of
-- that moment
abbrev pub EndsAreVerdicts : Type 0
EndsAreVerdicts =
    (next : Next) (known : List Content) → IsKnown known
    → AtEachEnd HasOneMaker (λ plan state. (seat : ℕ) (running : Running) (rule : Rule) (given : Verdict) (writes : List (Names × Stamp)) (tree : Tree)
    → Runs plan state seat running rule → FitsEnd rule running.denied given writes → EndsHonestly next known rule running running.denied given writes
    → IsTreeOf known state.files tree → IsVerdictOver next plan.rules rule tree given writes)
