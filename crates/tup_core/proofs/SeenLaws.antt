-- What has to be looked up for an ask.
use Rattle.std.proofs.Common.{◌≡◌, List, length, Option, ℕ, sym, ap, ◌∙◌}
use Rattle.std.specs.Prelude.{slice_get}
use Rattle.std.specs.FinMap as finite
use Rattle.std.proofs.lemmas.Option.{same_Some}
use Rattle.tup_path.specs.Name.{Names}
use Rattle.tup_stamp.specs.declared.Stamp.{Stamp}
use Rattle.tup_rule.specs.declared.rule.Rule.{Rule}
use Rattle.tup_access.specs.Access.{access}
use Rattle.tup_access.specs.declared.verdict.Access.TheVariants.{Yes}
use Rattle.tup_core.specs.declared.event.CoreEvent.TheVariants.{Ask}
use Rattle.tup_core.specs.declared.files.FileStamps.{FileStamps}
use Rattle.tup_core.specs.declared.machine.Core.{Core}
use Rattle.tup_core.specs.declared.plan.Plan.{Plan}
use Rattle.tup_core.specs.declared.running.Running.{Running}
use Rattle.tup_core.specs.Files.{stamp_with, IsSeenAt}
use Rattle.tup_core.specs.Machine.{state_of, IsSeenFor}
use Rattle.tup_core.specs.Step.{State, Runs}

yes_is : (one other : Names) → Yes one ≡ Yes other → one ≡ other
yes_is one other e = cc

-- a seat runs one rule, and its command's text names one path
module _ (plan : Plan) (state : State) (seat : ℕ) (one other : Running) (rule another : Rule) (runs : Runs plan state seat one rule) (also : Runs plan state seat other another) where
  one_runs : one ≡ other
  one_runs = same_Some one other (sym runs.here ∙ also.here)

  one_rule : rule ≡ another
  one_rule = same_Some rule another (sym runs.placed ∙ ap (λ (r : Running). slice_get plan.rules r.rule) one_runs ∙ also.placed)

  one_path : (text : List ℕ) (path q : Names) → access plan.rules rule (length one.asks) text ≡ Yes path → access plan.rules another (length other.asks) text ≡ Yes q → path ≡ q
  one_path text path q granted found = yes_is path q (sym granted ∙ (λ i. access plan.rules (one_rule i) (length (one_runs i).asks) text) ∙ found)

-- the stamp at the opening serves
pub first_seen : (files : FileStamps) (path : Names) (seen : Option Stamp) → seen ≡ finite.get files.first.value path → IsSeenAt files path seen
first_seen files path seen is = ap (stamp_with files path) is

-- what was found at the path that a seat's text names
pub found_seen : (plan : Plan) (core : Core) (seat : ℕ) (text : List ℕ) (answer seen : Option Stamp) (running : Running) (rule : Rule) (path : Names) → Runs plan (state_of core) seat running rule
    → access plan.rules rule (length running.asks) text ≡ Yes path → seen ≡ finite.get core.files.first.value path → IsSeenFor plan core (Ask seat text answer) seen
found_seen plan core seat text answer seen running rule path runs granted is other another q also found foreign =
    first_seen core.files q seen (is ∙ ap (finite.get core.files.first.value) (one_path plan (state_of core) seat running other rule another runs also text path q granted found))
