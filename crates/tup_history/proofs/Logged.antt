-- The log of an update of a kept project is true, where there are no reporters.
use Rattle.std.proofs.Common.{◌≡◌, ◌⊎◌, inl, inr, ℕ, Bool, List, [], subst, ◌∙◌}
use Rattle.tup_site.specs.World.{World}
use Rattle.tup_site.specs.Memory.{world_in}
use Rattle.tup_site.specs.contracts.memory_calls.MemSiteSite.TheImpl as memory
use Rattle.tup_site.specs.declared.memory.MemSite.{MemSite}
use Rattle.tup_rule.specs.declared.rule.RuleName.{RuleName}
use Rattle.tup_runner.specs.declared.runner.Runner.{Ghosts as Runner}
use Rattle.tup_tell.specs.declared.event.Event.{Event}
use Rattle.tup_promise.specs.Kept.{KeptHere}
use Rattle.tup_top.specs.Printed.{Ends, IsDone}
use Rattle.tup_top.specs.Status.{status_of}
use Rattle.tup_top.specs.Telling.{Hears, TellsUpdate}
use Rattle.tup_top.specs.Truth.{IsTrueLog}
use Rattle.tup_top.specs.declared.status.Status.{Status}
use Rattle.tup_top.specs.declared.status.Status.TheVariants.{Memory, SinkFault}
use Rattle.tup_top.proofs.Reported.{heard_none}
use Rattle.tup_history.specs.Run.{HasTrueLog}

-- what is answered, where it came to one status and another was to be printed
answered : (before now : ℕ) (came status answer : Status) → (status ≡ came) ⊎ (status ≡ Memory) → Ends before now status answer → (answer ≡ came) ⊎ (answer ≡ Memory) ⊎ ((answer ≡ SinkFault) × IsDone came)
answered before now came status answer (inl same) (inl is) = inl (is ∙ same)
answered before now came status answer (inr none) (inl is) = inr (inl (is ∙ none))
answered before now came status answer heard (inr (inl is)) = inr (inl is)
answered before now came status answer (inl same) (inr (inr (is, done, rose))) = inr (inr (is, subst IsDone same done))
answered before now came status answer (inr none) (inr (inr (is, done, rose))) = absurd (let no : IsDone Memory = subst IsDone none done in no)

module _ {R T : Type 0} (runner : Runner R) (told : T → List Event) (faults : T → ℕ) (tellers kept failed : List T) (nobody : tellers ≡ []) where
  pub true_log : (old : MemSite) (jobs : ℕ) (site keep_going : Bool) (left : World) (ran : List RuleName) (before now : ℕ) (answer : Status) → KeptHere memory.ghosts runner old
      → TellsUpdate jobs site keep_going (IsTrueLog memory.ghosts runner old left) (Hears told faults tellers kept failed) (world_in old) left ran before now answer
      → HasTrueLog runner.next jobs keep_going (world_in old) left answer ran
  true_log old jobs site keep_going left ran before now answer here tells = record {
    log = tells.log;
    stopped = tells.stopped;
    begun = tells.begun;
    logged = tells.logged;
    bads = tells.so.bads here;
    first = tells.so.first here;
    left = tells.so.left here;
    did = tells.so.did here.tells (runner.next, here.kept);
    answers =
        answered before now (status_of tells.log tells.stopped) tells.status answer
        (heard_none told faults tellers kept failed nobody tells.log (status_of tells.log tells.stopped) tells.status tells.heard) tells.ends;
  }
