-- What the entries of a seat tell of a board: what the seat runs.
use Rattle.std.proofs.Common.{◌≡◌, ℕ, List, [], ◌∷◌, ◌++◌, Option, None, Some, refl, sym, ap, ◌∙◌, subst, inl, inr}
use Rattle.std.specs.Prelude.{◌==◌, option_map}
use Rattle.std.proofs.lemmas.Bool.{cases_Bool, eq-eqb, eqb-true, true≢false}
use Rattle.std.proofs.lemmas.List.{append-nil}
use Rattle.std.proofs.lemmas.List.Elements.{filter-append}
use Rattle.tup_stamp.specs.declared.Stamp.{Stamp}
use Rattle.tup_path.specs.Name.{Names}
use Rattle.tup_access.specs.declared.verdict.Verdict.{Verdict}
use Rattle.tup_core.specs.declared.event.CoreEvent.{CoreEvent}
use Rattle.tup_core.specs.declared.event.CoreEvent.TheVariants.{Claim, Ask, Deny, Finish, Stop}
use Rattle.tup_core.specs.declared.plan.Plan.{Plan}
use Rattle.tup_core.specs.declared.running.Running.{Running}
use Rattle.tup_core.specs.Run.{end_of}
use Rattle.tup_core.specs.Step.{State, after, asked, finished, refused}
use Rattle.tup_core.proofs.Changed.{changed_here}
use Rattle.tup_board.specs.Board.{seat_of}
use Rattle.tup_board.specs.Entries.{after_entry, entries_at, runs_after}
use Rattle.tup_board.proofs.Draining.{finish_empties, finish_others, stop_empties, stop_others}
use Rattle.tup_board.proofs.Seeing.{apart_from}

module _ (number : ℕ) where
  -- ---- one event, at the seat and at another
  module _ (plan : Plan) (before : State) where
    finish_here : (given : Verdict) (written : List (Names × Stamp)) (runs : Option Running) → before.seats number ≡ runs → (finished plan before number (before.seats number) given written).seats number ≡ None
    finish_here given written None is = ap (λ (o : Option Running). (finished plan before number o given written).seats number) is ∙ is
    finish_here given written (Some running) is = finish_empties plan before number running given written is

    finish_there : (seat : ℕ) (given : Verdict) (written : List (Names × Stamp)) (runs : Option Running) → before.seats seat ≡ runs → (number ≡ seat → ⊥)
        → (finished plan before seat (before.seats seat) given written).seats number ≡ before.seats number
    finish_there seat given written None is differ = ap (λ (o : Option Running). (finished plan before seat o given written).seats number) is
    finish_there seat given written (Some running) is differ = finish_others plan before seat running given written is number differ

    -- what the seat runs after an event of its own
    at_seat : (event : CoreEvent) → seat_of event ≡ number → (after plan before event).seats number ≡ after_entry (before.seats number) event
    at_seat (Claim seat rule) is =
        subst (λ (n : ℕ). (after plan before (Claim n rule)).seats number ≡ Some (record { rule = rule; asks = []; denied = None })) (sym is)
        (changed_here before.seats number (Some (record { rule = rule; asks = []; denied = None })))
    at_seat (Ask seat text answer) is =
        subst (λ (n : ℕ). (after plan before (Ask n text answer)).seats number ≡ option_map (asked text answer) (before.seats number)) (sym is)
        (changed_here before.seats number (option_map (asked text answer) (before.seats number)))
    at_seat (Deny seat text verdict) is =
        subst (λ (n : ℕ). (after plan before (Deny n text verdict)).seats number ≡ option_map (refused text verdict) (before.seats number)) (sym is)
        (changed_here before.seats number (option_map (refused text verdict) (before.seats number)))
    at_seat (Finish seat given written) is =
        subst (λ (n : ℕ). (after plan before (Finish n given written)).seats number ≡ None) (sym is) (finish_here given written (before.seats number) refl)
    at_seat (Stop seat cause) is = subst (λ (n : ℕ). (after plan before (Stop n cause)).seats number ≡ None) (sym is) (stop_empties plan before number cause)

    -- and after one of another seat
    at_another : (event : CoreEvent) → (number ≡ seat_of event → ⊥) → (after plan before event).seats number ≡ before.seats number
    at_another (Claim seat rule) differ = apart_from before.seats seat (Some (record { rule = rule; asks = []; denied = None })) number differ
    at_another (Ask seat text answer) differ = apart_from before.seats seat (option_map (asked text answer) (before.seats seat)) number differ
    at_another (Deny seat text verdict) differ = apart_from before.seats seat (option_map (refused text verdict) (before.seats seat)) number differ
    at_another (Finish seat given written) differ = finish_there seat given written (before.seats seat) refl differ
    at_another (Stop seat cause) differ = stop_others plan before seat cause number differ

  -- ---- what it runs after all that happened is told by its entries
  pub runs_are : (plan : Plan) (events : List CoreEvent) (before : State) → runs_after (before.seats number) (entries_at number events) ≡ (end_of plan before events).seats number
  runs_are plan [] before = refl
  runs_are plan (event ∷ events) before =
      elim (cases_Bool (seat_of event == number)) [
        | inl mine ↦
            rw mine
            (ap (λ (runs : Option Running). runs_after runs (entries_at number events)) (sym (at_seat plan before event (eqb-true (seat_of event) number mine)))
            ∙ runs_are plan events (after plan before event))
        | inr other ↦
            rw other
            (ap (λ (runs : Option Running). runs_after runs (entries_at number events))
            (sym (at_another plan before event (λ equal. true≢false (sym (eq-eqb (seat_of event) number (sym equal)) ∙ other))))
            ∙ runs_are plan events (after plan before event))
      ]

  -- ---- one event of the seat more, or none
  one_entry : (event : CoreEvent) → seat_of event ≡ number → entries_at number (event ∷ []) ≡ event ∷ []
  one_entry event is = rw (eq-eqb (seat_of event) number is) refl

  pub adds_one : (old new : List CoreEvent) (event : CoreEvent) → seat_of event ≡ number → new ≡ old ++ event ∷ [] → entries_at number new ≡ entries_at number old ++ event ∷ []
  adds_one old new event is adds =
      ap (entries_at number) adds ∙ filter-append (λ (e : CoreEvent). seat_of e == number) old (event ∷ []) ∙ ap (λ (l : List CoreEvent). entries_at number old ++ l) (one_entry event is)

  pub adds_none : (old new : List CoreEvent) → new ≡ old → entries_at number new ≡ entries_at number old ++ []
  adds_none old new same = ap (entries_at number) same ∙ sym (append-nil (entries_at number old))
