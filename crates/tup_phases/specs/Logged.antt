-- What the log of an update says, by why it stopped, whatever its site and its runners are.
use Rattle.std.specs.Prelude.{◌≡◌, ◌≤◌, ◌<◌, ◌+◌, ℕ, Bool, true, false, List, [], ◌∷◌, ◌++◌, length, map, All, Option, None, Some}
use Rattle.std.specs.List.Sorted.{IsPermutation}
use Rattle.tup_site.specs.declared.fault.SiteFailed.TheVariants.{Fault, TooLarge, Memory}
use Rattle.tup_rule.specs.declared.rule.RuleName.{RuleName}
use Rattle.tup_access.specs.declared.verdict.Verdict.{Verdict}
use Rattle.tup_clean.specs.Clean.{is_good}
use Rattle.tup_promise.specs.Interleaved.{Interleave}
use Rattle.tup_promise.specs.Unopened.{IsEmptyLog}
use Rattle.tup_promise.specs.declared.log.EndedRule.{EndedRule}
use Rattle.tup_promise.specs.declared.log.Log.{Log}
use Rattle.tup_promise.specs.declared.stop.Stop.{Stop}
use Rattle.tup_promise.specs.declared.stop.Stop.TheVariants.{NoStore, BadStore, Sources, UserFile, Bad, Run, Full, Outside}

-- no rule was begun
pub record BeginsNone (log : Log) : Type 0 where
  pub ran : log.ran ≡ []
  pub ended : log.ended ≡ []
  pub steps : log.steps ≡ []

-- the rules whose command came to a verdict, in their order
abbrev pub ended_rules : Log → List RuleName
ended_rules log = map (λ (one : EndedRule). one.rule) log.ended

-- each verdict is Good
abbrev pub AreGood : List EndedRule → Type 0
AreGood ended = All (λ one. is_good (Some one.verdict) ≡ true) ended

-- The rules that were begun are those whose command came to a verdict, of which a log leaves these last ones out, and these others.
-- With one runner the others are the last. The steps of the log say how they followed each other: at most as many were under way at
-- once as there are runners.
pub record AreBegun (jobs : ℕ) (log : Log) (left others : List RuleName) : Type 0 where
  pub all : IsPermutation log.ran (ended_rules log ++ (left ++ others))
  pub alone : jobs ≡ 1 → log.ran ≡ ended_rules log ++ (left ++ others)
  pub steps : Interleave jobs [] log.steps log.ran (ended_rules log ++ left)

-- each rule that was begun came to a verdict, which is Good
pub record EndsWell (jobs : ℕ) (log : Log) : Type 0 where
  pub begun : AreBegun jobs log [] []
  pub good : AreGood log.ended

-- Once a command has come to a bad verdict no rule is begun: beside those that had ended well by then, no more were begun than
-- there are runners.
pub record EndsSoon (jobs : ℕ) (log : Log) : Type 0 where
  pub front : List EndedRule
  pub back : List EndedRule
  pub are : log.ended ≡ front ++ back
  pub good : AreGood front
  pub few : length log.ran ≤ length front + jobs

-- This rule came to this verdict. Where an update keeps going each came to one; and where it doesn't, it ends soon.
pub record EndsBadly (jobs : ℕ) (keep_going : Bool) (log : Log) (name : RuleName) (verdict : Verdict) : Type 0 where
  pub others : List RuleName
  pub begun : AreBegun jobs log [] others
  pub front : List EndedRule
  pub bad : EndedRule
  pub back : List EndedRule
  pub among : log.ended ≡ front ++ bad ∷ back
  pub rule_is : bad.rule ≡ name
  pub verdict_is : bad.verdict ≡ verdict
  pub all : keep_going ≡ true → others ≡ []
  pub soon : keep_going ≡ false → EndsSoon jobs log

-- some of the rules that were begun came to a verdict; with one runner the first of them
pub record EndsFirst (jobs : ℕ) (log : Log) : Type 0 where
  pub left : List RuleName
  pub others : List RuleName
  pub begun : AreBegun jobs log left others

-- each verdict is Good but for those of the last commands, which are fewer than there are runners
pub record AreGoodBefore (jobs : ℕ) (ended : List EndedRule) : Type 0 where
  pub front : List EndedRule
  pub back : List EndedRule
  pub are : ended ≡ front ++ back
  pub good : AreGood front
  pub few : length back < jobs

-- and where an update doesn't keep going, each of these is Good, but for commands that ended once it was cut off
pub record IsCutOff (jobs : ℕ) (keep_going : Bool) (log : Log) : Type 0 where
  pub ends : EndsFirst jobs log
  pub good : keep_going ≡ false → AreGoodBefore jobs log.ended

-- No rule is begun before all sources are read and the files that no rule makes are removed, and none of these is removed where
-- one is the user's. Each rule that was begun is told of, but for those whose command was cut off, with one runner the last; for
-- want of memory more may be left out. `jobs` is how many runners an update has.
abbrev pub IsLogged : ℕ → Bool → Log → Option Stop → Type 0
IsLogged jobs keep_going log None = EndsWell jobs log
IsLogged jobs keep_going log (Some NoStore) = IsEmptyLog log
IsLogged jobs keep_going log (Some (BadStore offset)) = IsEmptyLog log
IsLogged jobs keep_going log (Some (Sources fault)) = IsEmptyLog log
IsLogged jobs keep_going log (Some (UserFile path written found)) = (log.removed ≡ []) × BeginsNone log
IsLogged jobs keep_going log (Some (Bad name verdict)) = EndsBadly jobs keep_going log name verdict
IsLogged jobs keep_going log (Some Run) = IsCutOff jobs keep_going log
IsLogged jobs keep_going log (Some Full) = IsCutOff jobs keep_going log
IsLogged jobs keep_going log (Some (Outside Fault)) = IsCutOff jobs keep_going log
IsLogged jobs keep_going log (Some (Outside (TooLarge bytes))) = IsCutOff jobs keep_going log
IsLogged jobs keep_going log (Some (Outside Memory)) = EndsFirst jobs log
