-- The rules whose command came to a bad verdict: each has this verdict in the clean build, and the first of them is blamed (own).
use Rattle.std.specs.Prelude.{◌≡◌, ◌≤◌, ⊤, ℕ, false, List, All, Option, Some}
use Rattle.tup_site.specs.World.{World}
use Rattle.tup_rule.specs.declared.rule.Rule.{Rule}
use Rattle.tup_rule.specs.declared.rule.RuleName.{RuleName}
use Rattle.tup_runner.specs.Next.{Next}
use Rattle.tup_clean.specs.Clean.{is_good}
use Rattle.tup_promise.specs.Blamed.{IsBadRule}
use Rattle.tup_promise.specs.Kept.{AsksFor}
use Rattle.tup_promise.specs.Needed.{HasName}
use Rattle.tup_promise.specs.declared.log.EndedRule.{EndedRule}
use Rattle.tup_promise.specs.declared.log.Log.{Log}
use Rattle.tup_promise.specs.declared.stop.Stop.{Stop}
use Rattle.tup_promise.specs.declared.stop.Stop.TheVariants.{Bad}

-- a rule whose command is said to have come to a bad verdict was run, and has this verdict in the clean build of the sources
abbrev pub IsTrueEnd : Next → World → List RuleName → EndedRule → Type 0
IsTrueEnd next w ran one = is_good (Some one.verdict) ≡ false → IsBadRule next w ran one.rule one.verdict

-- so it is of each rule of which a log tells
abbrev pub BadEnds : Next → World → Log → Type 0
BadEnds next w log = All (IsTrueEnd next w log.ran) log.ended

-- a rule whose command came to a bad verdict stands at no place before this one
abbrev pub IsNotBefore : List Rule → ℕ → EndedRule → Type 0
IsNotBefore rules at one = is_good (Some one.verdict) ≡ false → (other : ℕ) → HasName rules other one.rule → at ≤ other

-- of the rules of which a log tells a bad verdict, none comes before the one of this name, in the order of the rules that the sources
-- ask for
pub record IsFirstBlamed (w : World) (ended : List EndedRule) (name : RuleName) : Type 0 where
  pub rules : List Rule
  pub asked : AsksFor w rules
  pub at : ℕ
  pub named : HasName rules at name
  pub first : All (IsNotBefore rules at) ended

-- where an update stops for a bad rule, it is the first of those of which its log tells
abbrev pub BlamesFirst : World → Log → Option Stop → Type 0
BlamesFirst w log (Some (Bad name verdict)) = IsFirstBlamed w log.ended name
BlamesFirst w log stopped = ⊤
