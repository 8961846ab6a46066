-- The work of a hand, one rule after another.
use Rattle.std.proofs.Common.{◌≡◌, ◌⊎◌, ◌<◌, ℕ, zero, suc, Bool, true, false, List, [], ◌∷◌, ◌++◌, Option, None, Some, get_or, refl, sym, ap, ◌∙◌, subst, inl, inr, ⊎_elim, append_assoc, arith}
use Rattle.std.specs.Prelude.{◌-◌, Contains, IsTrue, length, slice_get, take}
use Rattle.std.proofs.lemmas.Bool.{true≢false}
use Rattle.std.proofs.lemmas.List.{append-nil}
use Rattle.std.proofs.lemmas.List.Elements.{Contains-append_cases, Contains-append_right}
use Rattle.std.proofs.lemmas.Option.{slice_get_cases}
use Rattle.tup_path.specs.Count.{Rose}
use Rattle.tup_path.specs.Name.{Names}
use Rattle.tup_rule.specs.declared.rule.Rule.{Rule}
use Rattle.tup_runner.specs.declared.runner.Runner.{Ghosts as Runner}
use Rattle.tup_core.specs.declared.event.Cause.TheVariants.{Run, Memory}
use Rattle.tup_core.specs.declared.event.CoreEvent.{CoreEvent}
use Rattle.tup_core.specs.declared.event.CoreEvent.TheVariants.{Claim, Stop}
use Rattle.tup_core.specs.declared.plan.Plan.{Plan}
use Rattle.tup_core.specs.declared.running.Running.{Running}
use Rattle.tup_board.specs.Calls.{command_of, commands}
use Rattle.tup_board.specs.CameLaws.{no_place}
use Rattle.tup_board.specs.Entries.{runs_after}
use Rattle.tup_board.proofs.Draining.{all_but_last, commands_more}
use Rattle.tup_workers.specs.declared.hand.Hand.{Hand}
use Rattle.tup_workers.specs.Works.{IsAt, IsReady, RanBy, RunsBy, StartsBy, Worked, WorksOn}
use Rattle.tup_workers.proofs.Seeing.{runs_both}

module _ {T R : Type 0} (belongs : T → Type 0) (number : T → ℕ) (plan_of : T → Plan) (entries : T → List CoreEvent) (runner : Runner R) (plan : Plan) where
  abbrev On : Hand T R → Hand T R → Type 0
  On old new = WorksOn belongs number plan_of entries runner plan old new

  -- nothing was done yet
  pub begins : (hand : Hand T R) → IsReady belongs plan_of entries plan hand → On hand hand
  begins hand ready = record {
    at = ready.0;
    same = refl;
    added = [];
    adds = sym (append-nil (entries hand.seat));
    free = ready.1;
    ran = λ tells. sym (append-nil (runner.ran hand.runner));
    never_run = λ there. no_place there.0 there.1;
    steady = refl;
  }

  -- a claim that gave a rule begins it
  pub starts : (mid claimed : List CoreEvent) (seat rule : ℕ) → runs_after None mid ≡ None → claimed ≡ mid ++ Claim seat rule ∷ [] → rule < length plan.rules → StartsBy plan claimed rule
  starts mid claimed seat rule free adds within = ⊎_elim
      (λ some. record {
        rule = some.0;
        placed = some.2;
        here = ap (runs_after None) adds ∙ runs_both None mid (Claim seat rule ∷ []) ∙ ap (λ (it : Option Running). runs_after it (Claim seat rule ∷ [])) free;
      })
      (λ past. absurd (omega (arith, past.0, within))) (slice_get_cases plan.rules rule).1

  -- a claim that gave no rule
  pub nothing_claimed : (old mid new : Hand T R) → On old mid → IsAt belongs plan_of plan new.seat → number new.seat ≡ number mid.seat → entries new.seat ≡ entries mid.seat ++ [] → new.runner ≡ mid.runner → On old new
  nothing_claimed old mid new on at same adds runs = record {
    at = at;
    same = same ∙ on.same;
    added = on.added;
    adds = adds ∙ append-nil (entries mid.seat) ∙ on.adds;
    free = ap (runs_after None) (adds ∙ append-nil (entries mid.seat)) ∙ on.free;
    ran = λ tells. ap runner.ran runs ∙ on.ran tells;
    never_run = on.never_run;
    steady = ap runner.faults runs ∙ on.steady;
  }

  -- the board is over
  pub is_over : (old new : Hand T R) → On old new → Worked belongs number plan_of entries runner plan old new
  is_over old new on = record {
    at = on.at;
    same = on.same;
    added = on.added;
    adds = on.adds;
    free = on.free;
    ran = λ tells. inl (on.ran tells);
    cause = λ there. absurd (on.never_run there);
    steady = λ not. on.steady;
  }

  -- ---- a rule was claimed and run
  module _ (old mid new : Hand T R) (rule : ℕ) (it : Rule) (here : slice_get plan.rules rule ≡ Some it) (claimed : List CoreEvent) (on : On old mid) (claims_it : claimed ≡ entries mid.seat ++ Claim (number old.seat) rule ∷ []) (at : IsAt belongs plan_of plan new.seat)
      (same : number new.seat ≡ number mid.seat) (result : Bool) (ran : RunsBy runner plan rule (number old.seat) claimed (entries new.seat) mid.runner new.runner result) where
    abbrev added : List CoreEvent
    added = on.added ++ Claim (number old.seat) rule ∷ ran.added

    adds : entries new.seat ≡ entries old.seat ++ added
    adds =
        ran.adds ∙ ap (λ (l : List CoreEvent). l ++ ran.added) (claims_it ∙ ap (λ (l : List CoreEvent). l ++ Claim (number old.seat) rule ∷ []) on.adds)
        ∙ ap (λ (l : List CoreEvent). l ++ ran.added) (append_assoc (entries old.seat) on.added (Claim (number old.seat) rule ∷ []))
        ∙ append_assoc (entries old.seat) (on.added ++ Claim (number old.seat) rule ∷ []) ran.added
        ∙ ap (λ (l : List CoreEvent). entries old.seat ++ l) (append_assoc on.added (Claim (number old.seat) rule ∷ []) ran.added)

    commands_now : commands plan added ≡ commands plan on.added ++ command_of it ∷ []
    commands_now = commands_more plan on.added ran.added (number old.seat) rule it here ran.none_claimed

    -- the claim is no stop
    not_claim : Contains (Claim (number old.seat) rule ∷ ran.added) (Stop (number old.seat) Run) → Contains ran.added (Stop (number old.seat) Run)
    not_claim there = ⊎_elim (λ claim. absurd (apart (first claim.0 claim.1 claim.2))) (λ run. run) (Contains-append_cases (Claim (number old.seat) rule ∷ []) ran.added (Stop (number old.seat) Run) there)
      where
        apart : Claim (number old.seat) rule ≡ Stop (number old.seat) Run → ⊥
        apart e = cc

        first : (k : ℕ) → k < 1 → get_or (Claim (number old.seat) rule ∷ []) k (Stop (number old.seat) Run) ≡ Stop (number old.seat) Run → Claim (number old.seat) rule ≡ Stop (number old.seat) Run
        first zero less e = e
        first (suc k) less e = absurd (omega arith)

    -- it goes on
    pub goes_on : result ≡ true → On old new
    goes_on is_on = record {
      at = at;
      same = same ∙ on.same;
      added = added;
      adds = adds;
      free = ran.free;
      ran = λ tells. all tells (ran.ran tells it here);
      never_run = λ there. not_here there;
      steady = ran.steady (λ there. true≢false (sym is_on ∙ (ran.cause there).0)) ∙ on.steady;
    }
      where
        all : IsTrue runner.tells_ran → (runner.ran new.runner ≡ runner.ran mid.runner ++ command_of it ∷ []) ⊎ ((result ≡ false) × (runner.ran new.runner ≡ runner.ran mid.runner) × Contains ran.added (Stop (number old.seat) Memory))
            → runner.ran new.runner ≡ runner.ran old.runner ++ commands plan added
        all tells (inl one) = one ∙ ap (λ (l : List (Names × List ℕ)). l ++ command_of it ∷ []) (on.ran tells) ∙ append_assoc (runner.ran old.runner) (commands plan on.added) (command_of it ∷ []) ∙ ap (λ (l : List (Names × List ℕ)). runner.ran old.runner ++ l) (sym commands_now)
        all tells (inr not) = absurd (true≢false (sym is_on ∙ not.0))

        in_run : Contains (Claim (number old.seat) rule ∷ ran.added) (Stop (number old.seat) Run) → ⊥
        in_run there = true≢false (sym is_on ∙ (ran.cause (not_claim there)).0)

        not_here : Contains added (Stop (number old.seat) Run) → ⊥
        not_here there = ⊎_elim on.never_run in_run (Contains-append_cases on.added (Claim (number old.seat) rule ∷ ran.added) (Stop (number old.seat) Run) there)

    -- it stopped the board
    pub stopped : result ≡ false → Worked belongs number plan_of entries runner plan old new
    stopped is_off = record {
      at = at;
      same = same ∙ on.same;
      added = added;
      adds = adds;
      free = ran.free;
      ran = λ tells. all tells (ran.ran tells it here);
      cause = λ there. by_steady (ran.cause (since there)).1;
      steady = λ not. ran.steady (λ there. not (within there)) ∙ on.steady;
    }
      where
        within : {event : CoreEvent} → Contains ran.added event → Contains added event
        within {event} there = Contains-append_right on.added (Claim (number old.seat) rule ∷ ran.added) event (Contains-append_right (Claim (number old.seat) rule ∷ []) ran.added event there)

        since : Contains added (Stop (number old.seat) Run) → Contains ran.added (Stop (number old.seat) Run)
        since there = ⊎_elim (λ before. absurd (on.never_run before)) not_claim (Contains-append_cases on.added (Claim (number old.seat) rule ∷ ran.added) (Stop (number old.seat) Run) there)

        by_steady : Rose (runner.faults mid.runner) (runner.faults new.runner) → Rose (runner.faults old.runner) (runner.faults new.runner)
        by_steady rose = subst (λ (n : ℕ). Rose n (runner.faults new.runner)) on.steady rose

        all : IsTrue runner.tells_ran → (runner.ran new.runner ≡ runner.ran mid.runner ++ command_of it ∷ []) ⊎ ((result ≡ false) × (runner.ran new.runner ≡ runner.ran mid.runner) × Contains ran.added (Stop (number old.seat) Memory))
            → RanBy plan (number old.seat) added (runner.ran old.runner) (runner.ran new.runner)
        all tells (inl one) =
            inl (one ∙ ap (λ (l : List (Names × List ℕ)). l ++ command_of it ∷ []) (on.ran tells) ∙ append_assoc (runner.ran old.runner) (commands plan on.added) (command_of it ∷ []) ∙ ap (λ (l : List (Names × List ℕ)). runner.ran old.runner ++ l) (sym commands_now))
        all tells (inr not) = inr (
          within not.2,
          not.1 ∙ on.ran tells ∙ ap (λ (l : List (Names × List ℕ)). runner.ran old.runner ++ l)
              (all_but_last (commands plan on.added) (command_of it) ∙ ap (λ (l : List (Names × List ℕ)). take (length l - 1) l) (sym commands_now)),
        )

  -- ---- the same, of the seat as the claim left it
  module _ (old mid new : Hand T R) (claimed : T) (rule : ℕ) (on : On old mid) (adds : entries claimed ≡ entries mid.seat ++ Claim (number mid.seat) rule ∷ []) (within : rule < length plan.rules) (still : number claimed ≡ number mid.seat)
      (at : IsAt belongs plan_of plan new.seat × (number new.seat ≡ number claimed)) (result : Bool) (ran : RunsBy runner plan rule (number claimed) (entries claimed) (entries new.seat) mid.runner new.runner result) where
    begun : StartsBy plan (entries claimed) rule
    begun = starts (entries mid.seat) (entries claimed) (number mid.seat) rule on.free adds within

    adds_so : entries claimed ≡ entries mid.seat ++ Claim (number old.seat) rule ∷ []
    adds_so = adds ∙ ap (λ (n : ℕ). entries mid.seat ++ Claim n rule ∷ []) on.same

    ran_so : RunsBy runner plan rule (number old.seat) (entries claimed) (entries new.seat) mid.runner new.runner result
    ran_so = subst (λ (n : ℕ). RunsBy runner plan rule n (entries claimed) (entries new.seat) mid.runner new.runner result) (still ∙ on.same) ran

    pub goes_further : result ≡ true → On old new
    goes_further is_on = goes_on old mid new rule begun.rule begun.placed (entries claimed) on adds_so at.0 (at.1 ∙ still) result ran_so is_on

    pub stops_there : result ≡ false → Worked belongs number plan_of entries runner plan old new
    stops_there is_off = stopped old mid new rule begun.rule begun.placed (entries claimed) on adds_so at.0 (at.1 ∙ still) result ran_so is_off
