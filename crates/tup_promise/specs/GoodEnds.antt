-- The rules whose command came to a good verdict: each is Good in the clean build, and what it made stands. An update leaves none of
-- them to be run, and no more than had to be run before (own).
use Rattle.std.specs.Prelude.{◌≡◌, ◌≢◌, ℕ, true, List, [], All, Some, slice_get}
use Rattle.std.specs.FinMap as finite
use Rattle.tup_path.specs.Name.{Names}
use Rattle.tup_site.specs.World.{World}
use Rattle.tup_rule.specs.Rule.{name_of, writes}
use Rattle.tup_rule.specs.declared.rule.Rule.{Rule}
use Rattle.tup_rule.specs.declared.rule.RuleName.{RuleName}
use Rattle.tup_runner.specs.Next.{Next}
use Rattle.tup_clean.specs.Clean.{clean, good_at, is_good}
use Rattle.tup_ledger.specs.Sources.{sources_of}
use Rattle.tup_promise.specs.Kept.{AsksFor, OfGraph}
use Rattle.tup_promise.specs.Needed.{IsDueName}
use Rattle.tup_promise.specs.declared.log.EndedRule.{EndedRule}
use Rattle.tup_promise.specs.declared.log.Log.{Log}

-- The rule of this name, which the sources of a world ask for, is Good in their clean build; and at each of its outputs another world has
-- the file that this build leaves there.
pub record IsMade (next : Next) (old new : World) (name : RuleName) : Type 0 where
  pub rules : List Rule
  pub asked : AsksFor old rules
  pub at : ℕ
  pub rule : Rule
  pub here : slice_get rules at ≡ Some rule
  pub named : name_of rule ≡ name
  pub good : OfGraph old (λ g. good_at (clean next rules (sources_of g old.tree)).verdicts at ≡ true)
  pub outputs : (path : Names) → writes rule path ≡ true → OfGraph old (λ g. finite.get new.tree path ≡ finite.get (clean next rules (sources_of g old.tree)).tree path)

-- so it is of a rule whose command is said to have come to a good verdict
abbrev pub IsMadeEnd : Next → World → World → EndedRule → Type 0
IsMadeEnd next old new one = is_good (Some one.verdict) ≡ true → IsMade next old new one.rule

-- and it isn't due in a world
abbrev pub IsDoneIn : World → EndedRule → Type 0
IsDoneIn w one = is_good (Some one.verdict) ≡ true → IsDueName w one.rule → ⊥

-- What an update that began in one world, and has this log, leaves in another of the rules that it tells as good, and to be run. An update
-- that begins there runs no more than is due there.
pub record GoodEnds (next : Next) (old new : World) (log : Log) : Type 0 where
  -- each of them is Good in the clean build, and what it made stands
  pub made : All (IsMadeEnd next old new) log.ended
  -- none of them is due
  pub none_again : All (IsDoneIn new) log.ended
  -- once a rule was begun, each that is due was due before
  pub no_more : log.ran ≢ [] → (name : RuleName) → IsDueName new name → IsDueName old name
