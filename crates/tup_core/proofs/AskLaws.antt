-- What a command may ask for, told without the set of all outputs; and a core that has come to know the outputs in another way.
use Rattle.std.specs.Prelude.{◌≡◌, ℕ, Bool, true, false, nat_le, if◌then◌else◌, List, [], Result, Ok, Err}
use Rattle.std.proofs.Common.{inl, inr, subst, ap}
use Rattle.std.specs.BTreeSet.{BTreeSet}
use Rattle.std.specs.List.{list_any}
use Rattle.std.specs.Ordering.{eq_by_cmp}
use Rattle.tup_path.specs.declared.fault.PathFault.{PathFault}
use Rattle.tup_path.specs.Gives.{GivesUnless}
use Rattle.tup_path.specs.Name.{Names}
use Rattle.tup_path.specs.Order.{by_names}
use Rattle.tup_path.specs.Resolve.{resolve}
use Rattle.tup_rule.specs.declared.rule.Rule.{Rule}
use Rattle.tup_access.specs.declared.fault.AccessFault.TheVariants.{Memory}
use Rattle.tup_access.specs.declared.verdict.Verdict.{Verdict}
use Rattle.tup_access.specs.declared.verdict.Verdict.TheVariants.{IllegalRead, TooManyReads}
use Rattle.tup_access.specs.declared.verdict.Access.{Access}
use Rattle.tup_access.specs.declared.verdict.Access.TheVariants.{Yes, No}
use Rattle.tup_access.specs.Access.{access, may_read}
use Rattle.tup_access.specs.Generated.{IsGenerated}
use Rattle.tup_core.specs.declared.event.CoreEvent.{CoreEvent}
use Rattle.tup_core.specs.declared.fault.CoreFault.{CoreFault}
use Rattle.tup_core.specs.declared.outputs.Outputs.{Outputs}
use Rattle.tup_core.specs.declared.plan.Plan.{Plan}
use Rattle.tup_core.specs.declared.machine.Core.{Core}
use Rattle.tup_core.specs.Machine.{IsCore, Answers}
use Rattle.tup_core.specs.Outputs.{AreOutputs, access_to_path}

-- ---- an ask, as if no rule made anything

-- what is given is the answer
pub given_is : (given answer : Access) → GivesUnless (Ok given) Memory (Ok answer) → answer ≡ given
given_is given answer (inl e) = cc
given_is given answer (inr e) = cc

-- a set without keys has the outputs of no rules
pub none_made : (set : BTreeSet Names) → set.keys ≡ [] → IsGenerated [] set
none_made set empty = record { each = λ path. ap (list_any (eq_by_cmp by_names path)) empty }

module _ (rules : List Rule) (rule : Rule) (before : ℕ) (text : List ℕ) where
  abbrev given : List Rule → Bool → Result Names PathFault → Access
  given among late found = if late then No TooManyReads else elim found [ Err fault ↦ No (IllegalRead text) | Ok path ↦ if may_read among rule path then Yes path else No (IllegalRead text) ]

  -- where a text names a path then, the rest is whether the path may be read
  pub open_yes : (path : Names) → access [] rule before text ≡ Yes path → access rules rule before text ≡ access_to_path rules rule text path
  open_yes path e = by (nat_le 65535 before) (resolve rule.dir text) e
    where
      by : (late : Bool) (found : Result Names PathFault) → given [] late found ≡ Yes path → given rules late found ≡ access_to_path rules rule text path
      by true found e = cc
      by false (Err fault) e = cc
      by false (Ok named) e = ap (access_to_path rules rule text) (ap (λ (a : Access). elim a [ Yes p ↦ p | No verdict ↦ named ]) e)

  -- and what may not be asked for even then, may not be asked for
  pub open_no : (verdict : Verdict) → access [] rule before text ≡ No verdict → access rules rule before text ≡ No verdict
  open_no verdict e = by (nat_le 65535 before) (resolve rule.dir text) e
    where
      by : (late : Bool) (found : Result Names PathFault) → given [] late found ≡ No verdict → given rules late found ≡ No verdict
      by true found e = e
      by false (Err fault) e = e
      by false (Ok named) e = cc

-- ---- an ask is counted

pub noted_core : (plan : Plan) (old : Core) (generated : Outputs) → AreOutputs plan.rules generated → IsCore plan old → IsCore plan (record old { generated = generated })
noted_core plan old generated are is = record {
  pending = is.pending;
  claimed = is.claimed;
  bad = is.bad;
  seats = is.seats;
  generated = are;
  inputs = is.inputs;
  room = is.room;
  waiting = is.waiting;
  reached = is.reached;
  settled = is.settled;
  running = is.running;
}

-- what a core answers that has counted an ask, is what the one before it has to answer
pub noted_answers : {T : Type 0} (plan : Plan) (old noted new : Core) (event : CoreEvent) (result : Result T CoreFault) → noted ≡ record old { generated = noted.generated } → Answers plan noted event result new → Answers plan old event result new
noted_answers plan old noted new event result rest answers =
    let same = subst (λ (core : Core). Answers plan core event result new) rest answers in
    record {
      core = same.core;
      ok = same.ok;
      not_enabled = same.not_enabled;
      memory = same.memory;
      unchanged = same.unchanged;
      first = same.first;
    }
