-- What the runners of an update were given to run.
use Rattle.std.specs.Prelude.{◌≡◌, ◌==◌, ◌<◌, ◌⊎◌, ℕ, if◌then◌else◌, List, [], ◌∷◌, ◌++◌, length, map, slice_get, All, Option, None, Some}
use Rattle.tup_path.specs.Name.{Names}
use Rattle.tup_site.specs.declared.fault.SiteFailed.TheVariants.{Memory}
use Rattle.tup_rule.specs.declared.rule.RuleName.{RuleName}
use Rattle.tup_promise.specs.declared.stop.Stop.{Stop}
use Rattle.tup_promise.specs.declared.stop.Stop.TheVariants.{Outside}

-- what a runner is given of a rule: its folder and its command
abbrev pub command_of : RuleName → Names × List ℕ
command_of rule = (rule.dir, rule.text)

-- a runner's list of what it ran has grown by the commands of these rules, in their order
abbrev pub RanAll : List RuleName → List (Names × List ℕ) → List (Names × List ℕ) → Type 0
RanAll rules old new = new ≡ old ++ map command_of rules

-- or by those of all but the last
abbrev pub RanAllButLast : List RuleName → List (Names × List ℕ) → List (Names × List ℕ) → Type 0
RanAllButLast rules old new = (front : List RuleName) × (last : RuleName) × (rules ≡ front ++ last ∷ []) × RanAll front old new

-- these rules were begun, and their commands were run; where there was no memory the last one perhaps not
abbrev pub RunsThese : List RuleName → List (Names × List ℕ) → List (Names × List ℕ) → Option Stop → Type 0
RunsThese rules old new (Some (Outside Memory)) = RanAll rules old new ⊎ RanAllButLast rules old new
RunsThese rules old new stopped = RanAll rules old new

-- of some rules, beside the seats that began them, those of one seat, in their order
abbrev pub share : ℕ → List ℕ → List RuleName → List RuleName
share seat [] ran = []
share seat (one ∷ seats) [] = []
share seat (one ∷ seats) (name ∷ ran) = if one == seat then name ∷ share seat seats ran else share seat seats ran

-- one of several runners ran the commands of its share; where the update came to no success, perhaps not the last
abbrev pub RunsShare : List RuleName → List (Names × List ℕ) → List (Names × List ℕ) → Option Stop → Type 0
RunsShare rules old new None = RanAll rules old new
RunsShare rules old new (Some stop) = RanAll rules old new ⊎ RanAllButLast rules old new

-- The runners of a crew, by what each had run and has now, shared the rules that were begun: each rule was begun at the seat of
-- one of them, which ran its command, in the order of the rules. A runner that is alone ran all.
pub record CrewRuns (ran : List RuleName) (before now : List (List (Names × List ℕ))) (stopped : Option Stop) : Type 0 where
  pub many : length now ≡ length before
  pub seats : List ℕ
  pub each : length seats ≡ length ran
  pub below : All (λ seat. seat < length before) seats
  pub shares : (seat : ℕ) (old new : List (Names × List ℕ)) → slice_get before seat ≡ Some old → slice_get now seat ≡ Some new → RunsShare (share seat seats ran) old new stopped
  pub alone : (old new : List (Names × List ℕ)) → before ≡ old ∷ [] → now ≡ new ∷ [] → RunsThese ran old new stopped
