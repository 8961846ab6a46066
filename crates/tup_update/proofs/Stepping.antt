-- The steps of a history, taken one after another.
use Rattle.std.proofs.Common.{◌≡◌, ◌<◌, ◌≤◌, ◌+◌, ℕ, List, [], ◌∷◌, ◌++◌, length, drop, get_or, append-nil, append_assoc, Option, None, Some, sym, ap, subst, arith, ◌∙◌}
use Rattle.std.specs.Prelude.{vec_capacity, vec_len}
use Rattle.std.specs.List.{cons_option}
use Rattle.tup_core.specs.declared.event.CoreEvent.{CoreEvent}
use Rattle.tup_promise.specs.declared.log.Step.{Step}
use Rattle.tup_update.specs.Steps.{step_of, steps_of}
use Rattle.tup_update.specs.declared.steps.Steps.{Steps}
use Rattle.tup_update.proofs.Taking.{next_left}

-- steps of which some are taken, and for the others there is room
pub record IsTakingSteps (history left : List CoreEvent) (steps : Steps) : Type 0 where
  pub whole : steps.taken.items ++ steps_of left ≡ steps_of history
  pub room : vec_len steps.taken + length (steps_of left) ≤ vec_capacity steps.taken

pub no_steps : (history : List CoreEvent) (steps : Steps) → steps.taken.items ≡ [] → vec_len steps.taken + length (steps_of history) ≤ vec_capacity steps.taken → IsTakingSteps history history steps
no_steps history steps none room = record { whole = ap (λ (l : List Step). l ++ steps_of history) none; room = room }

-- the next event is this one
pub next_event : (history : List CoreEvent) (k : ℕ) (event : CoreEvent) (steps : Steps) → k < length history → event ≡ get_or history k event → IsTakingSteps history (drop k history) steps
    → IsTakingSteps history (event ∷ drop (k + 1) history) steps
next_event history k event steps within at is = subst (λ (left : List CoreEvent). IsTakingSteps history left steps) (next_left history k event within at) is

module _ (history left : List CoreEvent) (event : CoreEvent) (old : Steps) (is : IsTakingSteps history (event ∷ left) old) where
  -- it is a step, for which there is room, and which is taken
  module _ (step : Step) (here : step_of event ≡ Some step) where
    longer : length (steps_of (event ∷ left)) ≡ length (step ∷ steps_of left)
    longer = ap (λ (o : Option Step). length (cons_option o (steps_of left))) here

    pub room_for_one : vec_len old.taken < vec_capacity old.taken
    room_for_one = let room = is.room in let long = longer in omega (arith, room, long)

    pub one_taken : (new : Steps) → new.taken.items ≡ old.taken.items ++ step ∷ [] → vec_len new.taken ≡ vec_len old.taken + 1 → vec_capacity new.taken ≡ vec_capacity old.taken → IsTakingSteps history left new
    one_taken new items len cap = record {
      whole =
          ap (λ (l : List Step). l ++ steps_of left) items
          ∙ append_assoc old.taken.items (step ∷ []) (steps_of left)
          ∙ ap (λ (o : Option Step). old.taken.items ++ cons_option o (steps_of left)) (sym here)
          ∙ is.whole;
      room = let room = is.room in let long = longer in omega (arith, room, long, len, cap);
    }

  -- it is none
  pub none_taken : step_of event ≡ None → IsTakingSteps history left old
  none_taken none = record {
    whole = ap (λ (o : Option Step). old.taken.items ++ cons_option o (steps_of left)) (sym none) ∙ is.whole;
    room =
        let room = is.room in
        let same : length (steps_of (event ∷ left)) ≡ length (steps_of left) = ap (λ (o : Option Step). length (cons_option o (steps_of left))) none in
        omega (arith, room, same);
  }

-- at the end all are taken
pub all_steps : (history left : List CoreEvent) (steps : Steps) → left ≡ [] → IsTakingSteps history left steps → steps.taken.items ≡ steps_of history
all_steps history left steps none is =
    sym (append-nil steps.taken.items) ∙ subst (λ (l : List CoreEvent). steps.taken.items ++ steps_of l ≡ steps_of history) none is.whole
