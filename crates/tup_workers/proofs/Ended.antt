-- What the end of a command, and a stop, leave at a seat.
use Rattle.std.proofs.Common.{◌≡◌, ◌≢◌, ℕ, Bool, true, false, List, [], ◌∷◌, ◌++◌, Option, None, Some, Result, Ok, Err, map, refl, sym, ap, ◌∙◌, subst, ⊎_elim}
use Rattle.std.proofs.lemmas.Bool.{true≢false}
use Rattle.std.proofs.lemmas.List.{append-nil}
use Rattle.std.proofs.lemmas.List.Elements.{All-cons, All-nil}
use Rattle.std.proofs.lemmas.Option.{none-some}
use Rattle.tup_runner.specs.declared.step.Ended.{Ended}
use Rattle.tup_access.specs.Judge.{judge}
use Rattle.tup_access.specs.declared.verdict.Verdict.{Verdict}
use Rattle.tup_core.specs.declared.event.Cause.{Cause}
use Rattle.tup_core.specs.declared.event.Cause.TheVariants as causes
use Rattle.tup_core.specs.declared.event.CoreEvent.{CoreEvent}
use Rattle.tup_core.specs.declared.event.CoreEvent.TheVariants.{Finish, Stop}
use Rattle.tup_core.specs.declared.plan.Plan.{Plan}
use Rattle.tup_core.specs.declared.running.Running.{Running}
use Rattle.tup_core.specs.Honest.{stamped}
use Rattle.tup_core.specs.Run.{claims}
use Rattle.tup_rule_outputs.specs.declared.fault.BoardFault.{BoardFault}
use Rattle.tup_rule_outputs.specs.declared.fault.BoardFault.TheVariants as fault_by
use Rattle.tup_board.specs.Entries.{EndsBy, StopsBy, after_entry, runs_after}
use Rattle.tup_workers.specs.Told.{NeverRun}
use Rattle.tup_workers.specs.Works.{EndsWith, Stopped}
use Rattle.tup_workers.proofs.Seeing.{runs_both}

-- a seat that runs a rule stops by one entry
pub stops_by_one : (number : ℕ) (cause : Cause) (old new : List CoreEvent) (running : Running) → runs_after None old ≡ Some running → (added : List CoreEvent) → new ≡ old ++ added → StopsBy old number cause added → new ≡ old ++ Stop number cause ∷ []
stops_by_one number cause old new running runs added adds stops =
    ⊎_elim (λ one. adds ∙ ap (λ (l : List CoreEvent). old ++ l) one) (λ none. absurd (none-some running (sym none.0 ∙ runs))) stops

module _ (number : ℕ) (old new : List CoreEvent) where
  -- it runs nothing any more after such an entry
  ends_by_one : (event : CoreEvent) → new ≡ old ++ event ∷ [] → claims (event ∷ []) ≡ [] → NeverRun event → ((start : Option Running) → after_entry start event ≡ None) → (result : Bool)
      → (result ≡ false → event ∷ [] ≡ Stop number causes.Memory ∷ []) → EndsWith number old new result
  ends_by_one event adds none never ends result left = record {
    added = event ∷ [];
    adds = adds;
    none_claimed = none;
    never_run = All-cons NeverRun event [] never (All-nil NeverRun);
    free = ap (runs_after None) adds ∙ runs_both None old (event ∷ []) ∙ ends (runs_after None old);
    left = left;
  }

  -- the end of a command, where there was memory
  pub ends_well : (plan : Plan) (ended : Ended) (result : Result Verdict BoardFault) → result ≢ Err fault_by.Memory → (added : List CoreEvent) → new ≡ old ++ added → EndsBy plan old number ended result added → EndsWith number old new true
  ends_well plan ended (Ok given) other added adds by =
      ends_by_one (Finish number given (map stamped (judge by.0.rule ended).files)) (adds ∙ ap (λ (l : List CoreEvent). old ++ l) by.2) refl tt (λ start. refl) true (λ no. absurd (true≢false no))
  ends_well plan ended (Err fault_by.Site) other added adds by = ends_by_one (Stop number causes.Site) (adds ∙ ap (λ (l : List CoreEvent). old ++ l) by) refl tt (λ start. refl) true (λ no. absurd (true≢false no))
  ends_well plan ended (Err fault_by.Full) other added adds by = ends_by_one (Stop number causes.Full) (adds ∙ ap (λ (l : List CoreEvent). old ++ l) by) refl tt (λ start. refl) true (λ no. absurd (true≢false no))
  ends_well plan ended (Err fault_by.Memory) other added adds by = absurd (other refl)
  ends_well plan ended (Err (fault_by.TooLarge bytes)) other added adds by = absurd by

  -- where there was none nothing happened,
  pub nothing_ended : (plan : Plan) (ended : Ended) (result : Result Verdict BoardFault) → result ≡ Err fault_by.Memory → (added : List CoreEvent) → new ≡ old ++ added → EndsBy plan old number ended result added → new ≡ old
  nothing_ended plan ended result is added adds by =
      adds ∙ ap (λ (l : List CoreEvent). old ++ l) (subst (λ (r : Result Verdict BoardFault). EndsBy plan old number ended r added) is by) ∙ append-nil old

  -- and the board was stopped for that
  pub ends_for_memory : (mid : List CoreEvent) → mid ≡ old → (result : Bool) → Stopped number causes.Memory mid new result → EndsWith number old new result
  ends_for_memory mid same result stopped =
      ends_by_one (Stop number causes.Memory) (stopped.1 ∙ ap (λ (l : List CoreEvent). l ++ Stop number causes.Memory ∷ []) same) refl tt (λ start. refl) result (λ no. refl)
