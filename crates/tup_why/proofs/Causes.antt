-- The cause of a rule, put together from what was found out.
use Rattle.std.specs.Prelude.{◌≡◌, ◌≢◌, ℕ, true, false, Option, None, Some, All, Contains, MatchOption}
use Rattle.std.proofs.Common.{inr}
use Rattle.std.specs.FinMap as finite
use Rattle.tup_path.specs.Name.{Names}
use Rattle.tup_stamp.specs.declared.Stamp.{Stamp}
use Rattle.tup_rule.specs.Rule.{declares, writes}
use Rattle.tup_rule.specs.declared.rule.Rule.{Rule}
use Rattle.tup_record.specs.declared.run.RunRecord.{RunRecord}
use Rattle.tup_graph.specs.Above.{HasAsked}
use Rattle.tup_graph.specs.Graph.{GraphState}
use Rattle.tup_graph.specs.Kept.{HasSeenStamps}
use Rattle.tup_closure.specs.Lists.{list_of}
use Rattle.tup_closure.specs.declared.lists.Lists.{Lists}
use Rattle.tup_core.specs.declared.plan.Plan.{Plan}
use Rattle.tup_why.specs.Cause.{GiveNone, GivesNone, ReadsByNew, SeesAsks}
use Rattle.tup_why.specs.Makers.{AreMakers}
use Rattle.tup_why.specs.Reason.{HasOther, IsOtherWrite, IsPlanned, IsUnfinished}
use Rattle.tup_why.specs.Waiting.{WaitsBy}

-- what the asks and the writes of a record tell, put together
pub other_told : (g : GraphState) (rule : Rule) (run : RunRecord) → SeesAsks g rule run.asks → (found : Option Names)
    → MatchOption found (All (λ (file : Names × Stamp). finite.get g.seen file.0 ≡ Some file.1) run.writes) (IsOtherWrite g run.writes)
    → MatchOption found (HasSeenStamps g rule run) (HasOther g rule run)
other_told g rule run sees None all = record { asked = λ path given asked. sees path given asked.0 asked.1; wrote = all }
other_told g rule run sees (Some path) other = inr other

module _ (g : GraphState) (plan : Plan) where
  -- nothing was found: the rule is unfinished
  pub unfinished : (number : ℕ) (rule : Rule) (run : RunRecord) → finite.get g.runs number ≡ Some run → HasSeenStamps g rule run
      → GiveNone g plan rule run.asks → IsUnfinished g plan number rule
  unfinished number rule run recorded same none = record {
    run = run;
    recorded = recorded;
    same = same;
    ran = λ path given maker other h planned wrote. (none path given h).ran maker other planned wrote;
    undeclared = λ path given maker other h planned wrote. (none path given h).undeclared maker other planned wrote;
  }

  pub asked_by : (number : ℕ) (run : RunRecord) → finite.get g.runs number ≡ Some run → (path : Names) (given : Option Stamp) → Contains run.asks (path, given) → HasAsked g number path
  asked_by number run recorded path given h = (run, given, recorded, h)

  module _ (makers : Lists ℕ) (are : AreMakers plan makers) (path : Names) where
    -- a listed maker is a planned rule that has the path as an output
    pub maker_there : (maker : ℕ) → Contains (list_of makers path) maker → (other : Rule) × IsPlanned plan maker other × (writes other path ≡ true)
    maker_there maker h = let (reached, other, here, wrote) = (are (path, maker)).0 h in (other, record { here = here; reached = reached }, wrote)

    pub maker_listed : (maker : ℕ) (other : Rule) → IsPlanned plan maker other → writes other path ≡ true → Contains (list_of makers path) maker
    maker_listed maker other planned wrote = (are (path, maker)).1 (planned.reached, other, planned.here, wrote)

    pub reads_new : (number maker : ℕ) → HasAsked g number path → Contains (list_of makers path) maker → finite.get g.runs maker ≡ None → ReadsByNew g plan number maker path
    reads_new number maker asked h none = let (other, planned, wrote) = maker_there maker h in record {
      other = other;
      made = planned;
      unrecorded = none;
      asked = asked;
      wrote = wrote;
    }

    pub waits_by : (number maker : ℕ) (rule : Rule) → IsPlanned plan number rule → HasAsked g number path → declares rule path ≡ true → Contains (list_of makers path) maker
        → WaitsBy g plan number maker path
    waits_by number maker rule this asked declared h = let (other, planned, wrote) = maker_there maker h in record {
      rule = rule;
      other = other;
      planned = this;
      made = planned;
      declared = declared;
      asked = asked;
      wrote = wrote;
    }

    -- each maker has a record, and the rule doesn't declare the path or nobody makes it
    pub none_given : (rule : Rule) → ((maker : ℕ) → Contains (list_of makers path) maker → finite.get g.runs maker ≢ None)
        → ((maker : ℕ) → Contains (list_of makers path) maker → declares rule path ≡ false) → GivesNone g plan rule path
    none_given rule recorded undeclared = record {
      ran = λ maker other planned wrote. recorded maker (maker_listed maker other planned wrote);
      undeclared = λ maker other planned wrote. undeclared maker (maker_listed maker other planned wrote);
    }
