-- What a site told of once, it tells of still.
use Rattle.std.proofs.Common.{◌≡◌, ℕ, ◌+◌, ◌≤◌, Bool, List, [], ◌∷◌, ◌++◌, length, take, refl, sym, ap, subst, ◌∙◌, arith, length-append}
use Rattle.std.proofs.lemmas.List.{take-append-le, append-nil}
use Rattle.tup_site.specs.History.{at_first, after_all}
use Rattle.tup_site.specs.Laws.{present_law}
use Rattle.tup_site.specs.Memory.{world_in, first_of, changes_of, moment_of, left_since}
use Rattle.tup_site.specs.State.{State, IsImage}
use Rattle.tup_site.specs.World.{World}
use Rattle.tup_site.specs.declared.change.Change.{Change}
use Rattle.tup_site.specs.declared.change.Change.TheVariants.{Edited, Crashed}
use Rattle.tup_site.specs.declared.choice.Deed.TheVariants.{Edit, Crash}
use Rattle.tup_site.specs.declared.memory.MemSite.{MemSite}
use Rattle.tup_runner.specs.Next.{Next}
use Rattle.tup_top.specs.Order.{Wanted, BringsUp, order}
use Rattle.tup_top.specs.declared.status.Status.{Status}
use Rattle.tup_history.specs.History.{Standing, StandsAs, Takes, HasNoUpdate, IsHistory, StillTells}
use Rattle.tup_history.specs.Run.{Leaves}
use Rattle.tup_history.specs.declared.turn.End.{End}
use Rattle.tup_history.specs.declared.turn.Turn.{Turn}
use Rattle.tup_history.specs.declared.turn.Turn.TheVariants.{Deed, Run}

-- what a crash since a moment may have left, it may still
abbrev pub Goes : MemSite → MemSite → Type 0
Goes old new = (moment_of old ≤ moment_of new) × ((t : ℕ) (w : World) → t ≤ moment_of old → left_since old t w → left_since new t w)

pub then_goes : (old mid new : MemSite) → Goes old mid → Goes mid new → Goes old new
then_goes old mid new first last = (omega (arith, first.0, last.0), λ t w le left. last.1 t w (omega (arith, le, first.0)) (first.1 t w le left))

-- more happened
more_goes : (old new : MemSite) → first_of new ≡ first_of old → (changes : List Change) → changes_of new ≡ changes_of old ++ changes → Goes old new
more_goes old new first changes more = (
  omega (arith, long),
  λ t w le left. record {
    moment = left.moment;
    since = left.since;
    past = omega (arith, left.past, long);
    image = subst (λ (s : State). IsImage s w) (sym (state left.moment left.past)) left.image;
  },
)
  where
    long : length (changes_of new) ≡ length (changes_of old) + length changes
    long = ap length more ∙ length-append (changes_of old) changes

    state : (m : ℕ) → m ≤ length (changes_of old) → after_all (at_first (first_of new)) (take m (changes_of new)) ≡ after_all (at_first (first_of old)) (take m (changes_of old))
    state m past = (λ i. after_all (at_first (first i)) (take m (more i))) ∙ ap (after_all (at_first (first_of old))) (take-append-le m (changes_of old) changes past)

-- nothing did
pub still_goes : (old new : MemSite) → first_of new ≡ first_of old → changes_of new ≡ changes_of old → Goes old new
still_goes old new first none = more_goes old new first [] (none ∙ sym (append-nil (changes_of old)))

run_goes : (wanted : Wanted) (status : Status) (old new : MemSite) → (BringsUp wanted → ⊥) → Leaves wanted old new status → Goes old new
run_goes wanted status old new none leaves = let on = leaves.quiet none in (on.later, on.kept)

module _ (tells : Bool) (next : Next) where
  -- a turn that is no update, and those behind it
  turn_goes : (turn : Turn) (turns : List Turn) (end : End) (from to : Standing) → HasNoUpdate (turn ∷ turns) → Takes tells next turn end from to → Goes from.site to.site
  turn_goes (Deed (Edit path content)) turns end from to none takes = more_goes from.site to.site takes.ends.done.beside.first (Edited path content ∷ []) takes.ends.done.noted
  turn_goes (Deed (Crash choice)) turns end from to none takes = more_goes from.site to.site takes.ends.done.first (Crashed choice ∷ []) takes.ends.done.noted
  turn_goes (Run words stop_after) turns end from to none takes =
      then_goes from.site takes.begun to.site (still_goes from.site takes.begun takes.begins.first takes.begins.changes)
      (then_goes takes.begun takes.ended to.site (run_goes (order words) takes.status takes.begun takes.ended none.0 takes.leaves) (still_goes takes.ended to.site takes.goes_on.first takes.goes_on.changes))

  -- nor are those
  none_behind : (turn : Turn) (turns : List Turn) → HasNoUpdate (turn ∷ turns) → HasNoUpdate turns
  none_behind (Deed deed) turns none = none
  none_behind (Run words stop_after) turns none = none.1

  -- an end tells the moment behind its turn
  its_moment : (turn : Turn) (end : End) (from to : Standing) → Takes tells next turn end from to → end.moment ≡ moment_of to.site
  its_moment (Deed deed) end from to takes = takes.ends.moment
  its_moment (Run words stop_after) end from to takes = takes.moment

  goes_through : (turns : List Turn) (ends : List End) (from to : Standing) → HasNoUpdate turns → IsHistory tells next turns ends from to → Goes from.site to.site
  goes_through [] [] from to none is = subst (λ (s : Standing). Goes from.site s.site) (sym is) (still_goes from.site from.site refl refl)
  goes_through (turn ∷ turns) (end ∷ ends) from to none (mid, takes, history) =
      then_goes from.site mid.site to.site (turn_goes turn turns end from mid none takes) (goes_through turns ends mid to (none_behind turn turns none) history)
  goes_through [] (end ∷ ends) from to none never = absurd never
  goes_through (turn ∷ turns) [] from to none never = absurd never

  pub still_told : (turns : List Turn) (ends : List End) (from to : Standing) (history : IsHistory tells next turns ends from to) (site : MemSite) → Goes to.site site → StillTells tells next turns ends from to history site
  still_told [] [] from to is site goes = tt
  still_told (turn ∷ turns) (end ∷ ends) from to (mid, takes, history) site goes = (
    λ none.
        let on = then_goes mid.site to.site site (goes_through turns ends mid to none history) goes in
        subst (λ (t : ℕ). left_since site t (world_in mid.site)) (sym (its_moment turn end from mid takes)) (on.1 (moment_of mid.site) (world_in mid.site) (omega arith) (present_law mid.site)),
    still_told turns ends mid to history site goes,
  )
  still_told [] (end ∷ ends) from to never site goes = absurd never
  still_told (turn ∷ turns) [] from to never site goes = absurd never

  -- also behind what left all as it was
  pub told_at_last : (turns : List Turn) (ends : List End) (from last to : Standing) (history : IsHistory tells next turns ends from last) → StandsAs last to → StillTells tells next turns ends from last history to.site
  told_at_last turns ends from last to history stands = still_told turns ends from last history to.site (still_goes last.site to.site stands.site.beside.first stands.site.changes)
