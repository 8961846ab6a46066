-- What the run of one rule leaves, by what came of its command.
use Rattle.std.proofs.Common.{◌≡◌, ◌⊎◌, ℕ, Bool, false, List, [], ◌∷◌, ◌++◌, None, Some, refl, sym, ap, ◌∙◌, subst, inl, inr, ⊎_elim, append_assoc, arith}
use Rattle.std.specs.Prelude.{All, Contains, IsTrue, slice_get}
use Rattle.std.proofs.lemmas.List.Elements.{All-append, All-contains, Contains-append_right}
use Rattle.tup_path.specs.Count.{Rose}
use Rattle.tup_rule.specs.declared.rule.Rule.{Rule}
use Rattle.tup_runner.specs.declared.runner.Runner.{Ghosts as Runner}
use Rattle.tup_core.specs.declared.event.Cause.TheVariants.{Run, Memory}
use Rattle.tup_core.specs.declared.event.CoreEvent.{CoreEvent}
use Rattle.tup_core.specs.declared.event.CoreEvent.TheVariants.{Stop}
use Rattle.tup_core.specs.declared.plan.Plan.{Plan}
use Rattle.tup_core.specs.Run.{claims}
use Rattle.tup_board.specs.Calls.{command_of}
use Rattle.tup_board.specs.CameLaws.{claims_both}
use Rattle.tup_board.specs.Entries.{runs_after}
use Rattle.tup_workers.specs.Told.{NeverRun}
use Rattle.tup_workers.specs.Works.{RunsBy}
use Rattle.tup_workers.proofs.Seeing.{runs_both}

module _ {R : Type 0} (runner : Runner R) (plan : Plan) (rule number : ℕ) (old mid new first second : List CoreEvent) (was is : R) (adds : mid ≡ old ++ first) (adds_more : new ≡ mid ++ second) (none : claims first ≡ []) (none_more : claims second ≡ [])
    (never : All NeverRun first) where
  whole : new ≡ old ++ (first ++ second)
  whole = adds_more ∙ ap (λ (l : List CoreEvent). l ++ second) adds ∙ append_assoc old first second

  none_both : claims (first ++ second) ≡ []
  none_both = claims_both first second ∙ ap (λ (l : List ℕ). l ++ claims second) none ∙ none_more

  -- its command was run, unless there was no memory, and no runner failed
  pub runs_well : runs_after None new ≡ None → All NeverRun second → (result : Bool)
      → (IsTrue runner.tells_ran → (it : Rule) → slice_get plan.rules rule ≡ Some it
      → (runner.ran is ≡ runner.ran was ++ command_of it ∷ []) ⊎ ((result ≡ false) × (runner.ran is ≡ runner.ran was) × Contains second (Stop number Memory)))
      → runner.faults is ≡ runner.faults was → RunsBy runner plan rule number old new was is result
  runs_well free never_more result ran same = record {
    added = first ++ second;
    adds = whole;
    none_claimed = none_both;
    free = free;
    ran = λ tells it placed.
        ⊎_elim inl (λ no_memory. inr (no_memory.0, no_memory.1, Contains-append_right first second (Stop number Memory) no_memory.2)) (ran tells it placed);
    cause = λ there. absurd (All-contains NeverRun (first ++ second) (Stop number Run) (All-append NeverRun first second never never_more) there);
    steady = λ not. same;
  }

  -- its runner failed, for which it has stopped
  pub runs_failed : second ≡ Stop number Run ∷ [] → (result : Bool) → result ≡ false
      → (IsTrue runner.tells_ran → (it : Rule) → slice_get plan.rules rule ≡ Some it → runner.ran is ≡ runner.ran was ++ command_of it ∷ []) → Rose (runner.faults was) (runner.faults is)
      → RunsBy runner plan rule number old new was is result
  runs_failed stops result is_off ran rose = record {
    added = first ++ second;
    adds = whole;
    none_claimed = none_both;
    free = ap (runs_after None) (adds_more ∙ ap (λ (l : List CoreEvent). mid ++ l) stops) ∙ runs_both None mid (Stop number Run ∷ []);
    ran = λ tells it placed. inl (ran tells it placed);
    cause = λ there. (is_off, rose);
    steady = λ not. absurd (not (Contains-append_right first second (Stop number Run) (subst (λ (l : List CoreEvent). Contains l (Stop number Run)) (sym stops) (0, omega arith, refl))));
  }
