-- What is kept of a project between two updates, as far as its rules go, and what holds of it. From Mike Shal, "Build
-- System Rules and Algorithms" (2009): a graph that is stored. What is stored beside it, and what holds, is own.
use Rattle.std.specs.Prelude.{◌≡◌, ℕ, ◌<◌, ◌≤◌, Bool, true, false, List, [], ◌∷◌, length, Option, None, Some, IsSome, Ok, All, Contains, map, slice_get}
use Rattle.tup_path.specs.Name.{Names, Content}
use Rattle.tup_path.specs.Resolve.{resolve}
use Rattle.tup_stamp.specs.declared.Stamp.{Stamp}
use Rattle.tup_rule.specs.declared.rule.Rule.{Rule}
use Rattle.tup_rule.specs.Rule.{declares, writes, is_generated}
use Rattle.tup_record.specs.declared.owned.OwnedState.{OwnedState}
use Rattle.tup_record.specs.declared.owned.OwnedState.TheVariants.{Written}
use Rattle.tup_record.specs.declared.run.RunRecord.{RunRecord}
use Rattle.tup_runner.specs.Next.{Next, Asks}
use Rattle.tup_runner.specs.Honest.{AsksJust}
use Rattle.tup_runner.specs.declared.step.Ended.{Ended}
use Rattle.tup_runner.specs.declared.step.Step.TheVariants.{End}
use Rattle.tup_access.specs.declared.verdict.Verdict.TheVariants.{Good}
use Rattle.tup_access.specs.Judge.{judge}
use Rattle.tup_core.specs.Sound.{IsAcyclic}
use Rattle.tup_core.specs.Honest.{StandsFor, stamped}

-- which rule makes an owned path, if one still does, and what is known of the file there
pub record Owner : Type 0 where
  pub maker : Option ℕ
  pub state : OwnedState

-- what is kept: the stamp of each file that was seen, the rules, the record of each rule's last good run, which rules
-- are flagged, and the paths that the build owns
pub record Kept : Type 0 where
  pub seen : Names → Option Stamp
  pub rules : List Rule
  pub record_of : ℕ → Option RunRecord
  pub flagged : ℕ → Bool
  pub owner : Names → Option Owner

-- asks as they are recorded: paths for texts, and the stamps of known contents; an own output is absent
abbrev pub AreRecorded : List Content → Rule → List (Names × Option Stamp) → Asks → Type 0
AreRecorded known rule [] [] = Unit {0}
AreRecorded known rule (noted ∷ more) (ask ∷ asks) =
    (resolve rule.dir ask.0 ≡ Ok noted.0) × StandsFor known noted.1 ask.1 × (writes rule noted.0 ≡ true → noted.1 ≡ None) × AreRecorded known rule more asks
AreRecorded known rule [] (ask ∷ asks) = ⊥
AreRecorded known rule (noted ∷ more) [] = ⊥

-- a record is true: over the contents that it names by their stamps the rule's command asks just this, ends well, and
-- leaves just this. No tree is in it, so nothing that happens to one makes it false
pub record IsTrueRecord (next : Next) (known : List Content) (rule : Rule) (run : RunRecord) : Type 0 where
  pub asks : Asks
  pub recorded : AreRecorded known rule run.asks asks
  pub just : AsksJust (next rule.dir rule.text) asks
  pub few : length run.asks ≤ 65535
  pub ended : Ended
  pub ends : next rule.dir rule.text asks ≡ End ended
  pub good : (judge rule ended).verdict ≡ Good
  pub leaves : map stamped (judge rule ended).files ≡ run.writes
  pub contents : All (λ (file : Names × Content). Contains known file.1) (judge rule ended).files

-- an owned path has a state
abbrev pub HasState : Kept → Names → OwnedState → Type 0
HasState kept path state = (owner : Owner) × (kept.owner path ≡ Some owner) × (owner.state ≡ state)

-- the record of a rule that isn't flagged
pub record IsCurrent (kept : Kept) (rule : Rule) (run : RunRecord) : Type 0 where
  -- what it asked, own outputs aside, and wrote has the seen stamps
  pub asks : All (λ (ask : Names × Option Stamp). writes rule ask.0 ≡ false → ask.1 ≡ kept.seen ask.0) run.asks
  pub seen : All (λ (file : Names × Stamp). kept.seen file.0 ≡ Some file.1) run.writes
  -- owned paths that it asked, own outputs aside, are declared by the rule
  pub declared : All (λ (ask : Names × Option Stamp). writes rule ask.0 ≡ false → IsSome (kept.owner ask.0) → declares rule ask.0 ≡ true) run.asks
  -- its outputs are known to hold what it wrote
  pub written : All (λ (file : Names × Stamp). HasState kept file.0 (Written file.1)) run.writes

-- what holds of what is kept, whatever edits and crashes came to it
pub record IsKept (next : Next) (known : List Content) (kept : Kept) : Type 0 where
  -- no rule waits for itself, and flags are flags of rules
  pub acyclic : IsAcyclic kept.rules
  pub flags : (at : ℕ) → kept.flagged at ≡ true → at < length kept.rules
  -- every record is true, and a rule that isn't flagged has one
  pub true_records : (at : ℕ) (rule : Rule) (run : RunRecord) → slice_get kept.rules at ≡ Some rule → kept.record_of at ≡ Some run → IsTrueRecord next known rule run
  pub current : (at : ℕ) (rule : Rule) → slice_get kept.rules at ≡ Some rule → kept.flagged at ≡ false → (run : RunRecord) × (kept.record_of at ≡ Some run) × IsCurrent kept rule run
  -- a rule whose record asks an output of a flagged rule is flagged
  pub upward : (at other : ℕ) (rule another : Rule) (run : RunRecord) (ask : Names × Option Stamp) → slice_get kept.rules at ≡ Some rule → slice_get kept.rules other ≡ Some another
      → kept.record_of at ≡ Some run → Contains run.asks ask → writes another ask.0 ≡ true → kept.flagged other ≡ true → kept.flagged at ≡ true
  -- an output is owned, and its rule is its maker: so no path is an output of two. Every other owned path has no maker
  pub outputs : (at : ℕ) (rule : Rule) (path : Names) → slice_get kept.rules at ≡ Some rule → writes rule path ≡ true → (owner : Owner) × (kept.owner path ≡ Some owner) × (owner.maker ≡ Some at)
  pub others : (path : Names) (owner : Owner) → kept.owner path ≡ Some owner → is_generated kept.rules path ≡ false → owner.maker ≡ None
