-- The board that a lock gives back, once each hand of a crew has worked at it.
use Rattle.std.proofs.Common.{◌≡◌, ◌≢◌, ◌<◌, ◌≤◌, ℕ, zero, suc, eq-eqb, ne_eqb, List, [], ◌∷◌, ◌++◌, None, length, map, get_or, refl, sym, ap, ◌∙◌, subst, inl, inr, ⊎_elim, arith}
use Rattle.std.specs.Prelude.{◌==◌, All, Contains, drop, take}
use Rattle.std.proofs.lemmas.Bool.{cases_lt}
use Rattle.std.proofs.lemmas.List.{append-nil, drop_all, get_or-map, length-map, take_all}
use Rattle.std.proofs.lemmas.List.Elements.{All-contains, All-contains_itself, All-filter, All-head, All-nil, All-tail, Contains-append_right, filter-append}
use Rattle.tup_path.specs.Count.{Rose}
use Rattle.tup_site.specs.declared.site.Site.{Ghosts as Site}
use Rattle.tup_runner.specs.declared.runner.Runner.{Ghosts as Runner}
use Rattle.tup_core.specs.declared.event.Cause.TheVariants.{Run, Memory}
use Rattle.tup_core.specs.declared.event.CoreEvent.{CoreEvent}
use Rattle.tup_core.specs.declared.event.CoreEvent.TheVariants.{Stop}
use Rattle.tup_core.specs.declared.plan.Plan.{Plan}
use Rattle.tup_schedule.specs.Course.{NoneRuns}
use Rattle.tup_board.specs.Board.{BoardState, course_of, plan_of, seat_of as seat_at, start, state}
use Rattle.tup_board.specs.Calls.{commands}
use Rattle.tup_board.specs.CameLaws.{no_place}
use Rattle.tup_board.specs.Entries.{entries_at, runs_after}
use Rattle.tup_board.proofs.EntriesAt.{runs_are}
use Rattle.tup_lock.specs.Boards.{board_log, entries_by}
use Rattle.tup_lock.specs.Seats.{AreNew, AreSeatsOf, IsSeatOf}
use Rattle.tup_lock.specs.declared.seat.Seat.{Seat}
use Rattle.tup_lock.specs.declared.seat_lock.SeatLock.{SeatLock}
use Rattle.tup_workers.specs.Works.{IsReady, RanBy, Worked}
use Rattle.tup_workers.specs.declared.hand.Hand.{Hand}
use Rattle.tup_parallel.specs.Hands.{runner_of, seat_of}
use Rattle.tup_parallel.specs.Parallel.{Leaves, RanAt}

-- ---- nothing was done
pub leaves_same : {S R : Type 0} (site : Site S) (runner : Runner R) (plan : Plan) (board : BoardState S) (crew : List R) → board.history ≡ [] → Leaves site runner plan board board crew crew
leaves_same {S} {R} site runner plan board crew none = record {
  opening = refl;
  none_runs = λ seat. sym (runs_are seat (plan_of board) board.history (start board)) ∙ ap (λ (events : List CoreEvent). runs_after None (entries_at seat events)) none;
  below = subst (λ (events : List CoreEvent). All (λ event. seat_at event < length crew) events) (sym none) (All-nil (λ event. seat_at event < length crew));
  many = refl;
  ran = λ tells i d less. inl (sym (append-nil (runner.ran (get_or crew i d))) ∙ ap (λ (events : List CoreEvent). runner.ran (get_or crew i d) ++ commands plan (entries_at i events)) (sym none));
  stood = λ i d less not. refl;
  failed = λ i d less there. let here = subst (λ (events : List CoreEvent). Contains events (Stop i Run)) none there in absurd (no_place here.0 here.1);
  steady = λ going. refl;
}

-- ---- the entries of a seat among all events
entries_head : (seat : ℕ) (event : CoreEvent) (events : List CoreEvent) → seat_at event ≡ seat → entries_at seat (event ∷ events) ≡ event ∷ entries_at seat events
entries_head seat event events own = rw (eq-eqb (seat_at event) seat own) refl

-- an event of the seat is among its entries
pub among_entries : (seat : ℕ) (events : List CoreEvent) (event : CoreEvent) → seat_at event ≡ seat → Contains events event → Contains (entries_at seat events) event
among_entries seat [] event own (k, less, is) = absurd (omega arith)
among_entries seat (first ∷ events) event own (zero, less, is) =
    subst (λ (l : List CoreEvent). Contains l event) (sym (entries_head seat first events (ap seat_at is ∙ own))) (0, omega arith, is)
among_entries seat (first ∷ events) event own (suc k, less, is) =
    subst (λ (l : List CoreEvent). Contains l event) (sym (filter-append (λ (e : CoreEvent). seat_at e == seat) (first ∷ []) events))
    (Contains-append_right (entries_at seat (first ∷ [])) (entries_at seat events) event (among_entries seat events event own (k, omega arith, is)))

-- and its entries are among all
pub among_all : (seat : ℕ) (events : List CoreEvent) (event : CoreEvent) → Contains (entries_at seat events) event → Contains events event
among_all seat events event there =
    All-contains (Contains events) (entries_at seat events) event (All-filter (λ (e : CoreEvent). seat_at e == seat) (Contains events) events (All-contains_itself events)) there

-- a seat that no event is of has no entries
pub none_above : (seat count : ℕ) (events : List CoreEvent) → count ≤ seat → All (λ event. seat_at event < count) events → entries_at seat events ≡ []
none_above seat count [] above below = refl
none_above seat count (event ∷ events) above below =
    let less : seat_at event < count = All-head (λ e. seat_at e < count) event events below in
    let apart : seat_at event ≢ seat = λ same. omega (arith, same) in
    rw (ne_eqb (seat_at event) seat apart) (none_above seat count events above (All-tail (λ e. seat_at e < count) event events below))

-- ---- a list that was written over
pub written_over : {A : Type 0} (n : ℕ) (new old : List A) → length new ≡ length old → n ≡ length old → take n (new ++ drop (length new) old) ≡ new
written_over {A} n new old long is =
    ap (λ (l : List A). take n (new ++ l)) (drop_all (length new) old (omega (arith, long))) ∙ ap (take n) (append-nil new) ∙ take_all n new (omega (arith, long, is))

-- ---- the hands of a lock
-- some element of a list that has one
some_of : {A : Type 0} (xs : List A) (i : ℕ) → i < length xs → A
some_of [] i less = absurd (omega arith)
some_of (x ∷ xs) i less = x

module _ {S R W : Type 0} (site : Site S) (runner : Runner R) (plan : Plan) (lock : SeatLock (BoardState S) W CoreEvent) where
  abbrev Place : Type 0
  Place = Seat (BoardState S) CoreEvent (board_log site)

  abbrev belongs : Place → Type 0
  belongs seat = IsSeatOf (board_log site) lock seat

  abbrev plan_at : Place → Plan
  plan_at seat = plan_of seat.last.value

  abbrev Ready : Hand Place R → Type 0
  Ready hand = IsReady belongs plan_at (λ seat. entries_by seat) plan hand

  abbrev Did : Hand Place R → Hand Place R → Type 0
  Did old new = Worked belongs (λ seat. seat.number) plan_at (λ seat. entries_by seat) runner plan old new

  module _ (none : lock.first.value.history ≡ []) (seats : List Place) (new : AreNew (board_log site) lock lock.first.value seats) (old : List (Hand Place R)) (are : map seat_of old ≡ seats) where
    -- as many hands as seats
    pub as_many : length old ≡ length seats
    as_many = sym (length-map old seat_of) ∙ ap length are

    -- the seat of a place
    module _ (i : ℕ) (h : Hand Place R) (less : i < length old) where
      seat_there : (get_or old i h).seat ≡ get_or seats i h.seat
      seat_there = sym (get_or-map seat_of old i h h.seat less) ∙ ap (λ (l : List Place). get_or l i h.seat) are

      within : i < length seats
      within = let long = as_many in omega arith

      is_seat : belongs (get_or old i h).seat
      is_seat = subst belongs (sym seat_there) (new.0.1 i h.seat within).0

      number_there : (get_or old i h).seat.number ≡ i
      number_there = ap (λ (s : Place). s.number) seat_there ∙ (new.0.1 i h.seat within).1

      last_there : (get_or old i h).seat.last.value ≡ lock.first.value
      last_there = ap (λ (s : Place). s.last.value) seat_there ∙ new.1 i h.seat within

      none_there : entries_by (get_or old i h).seat ≡ []
      none_there = ap (λ (b : BoardState S). entries_at (get_or old i h).seat.number b.history) last_there ∙ ap (entries_at (get_or old i h).seat.number) none

    -- each hand may begin
    ready_hands : plan ≡ plan_of lock.first.value → All Ready old
    ready_hands is i h less = ((is_seat i h less, is ∙ ap plan_of (sym (last_there i h less))), ap (runs_after None) (none_there i h less))

    pub ready_slice : (slice : List (Hand Place R)) → slice ≡ old → plan ≡ plan_of lock.first.value → All Ready slice
    ready_slice slice same is = subst (λ (l : List (Hand Place R)). All Ready l) (sym same) (ready_hands is)

    -- what each did that is here did
    pub did_all : (slice hands : List (Hand Place R)) → slice ≡ old → ((i : ℕ) (h : Hand Place R) → i < length slice → Did (get_or slice i h) (get_or hands i h))
        → (i : ℕ) (h : Hand Place R) → i < length old → Did (get_or old i h) (get_or hands i h)
    did_all slice hands same did = subst (λ (l : List (Hand Place R)). (i : ℕ) (h : Hand Place R) → i < length l → Did (get_or l i h) (get_or hands i h)) same did

    -- ---- once each has worked
    module _ (hands : List (Hand Place R)) (long : length hands ≡ length old) (did : (i : ℕ) (h : Hand Place R) → i < length old → Did (get_or old i h) (get_or hands i h)) where
      -- its seat is the one of its place
      number_now : (i : ℕ) (h : Hand Place R) (less : i < length old) → (get_or hands i h).seat.number ≡ i
      number_now i h less = (did i h less).same ∙ number_there i h less

      entries_now : (i : ℕ) (h : Hand Place R) (less : i < length old) → entries_by (get_or hands i h).seat ≡ (did i h less).added
      entries_now i h less = (did i h less).adds ∙ ap (λ (l : List CoreEvent). l ++ (did i h less).added) (none_there i h less)

      -- all seats are back
      pub seats_back : (back : List Place) → back ≡ map seat_of hands → AreSeatsOf (board_log site) lock back
      seats_back back is = (
        ap length is ∙ length-map hands seat_of ∙ long ∙ as_many ∙ new.0.0,
        λ i d less.
            let within : i < length hands = omega (arith, ap length is, length-map hands seat_of, less) in
            let h = some_of hands i within in
            let there : get_or back i d ≡ (get_or hands i h).seat = ap (λ (l : List Place). get_or l i d) is ∙ get_or-map seat_of hands i h d within in
            let before : i < length old = omega (arith, long, within) in
            subst (λ (s : Place). IsSeatOf (board_log site) lock s × (s.number ≡ i)) (sym there) ((did i h before).at.0, number_now i h before),
      )

      -- ---- the board is closed
      module _ (back : List Place) (back_is : back ≡ map seat_of hands) (board : BoardState S) (opening : board.opening ≡ lock.first.value.opening)
          (entries : (i : ℕ) (d : Place) → i < length back → entries_at i board.history ≡ entries_at i (get_or back i d).last.value.history)
          (others : All (λ event. seat_at event < lock.seats) board.history)
          (steady : (state board).stopped ≡ None → ((state lock.first.value).stopped ≡ None) × (site.faults lock.first.value.site ≡ site.faults board.site)) where
        -- the entries of a seat
        entries_there : (i : ℕ) (h : Hand Place R) (less : i < length old) → entries_at i board.history ≡ entries_by (get_or hands i h).seat
        entries_there i h less =
            let within : i < length hands = omega (arith, long, less) in
            let there : get_or back i (get_or hands i h).seat ≡ (get_or hands i h).seat = ap (λ (l : List Place). get_or l i (get_or hands i h).seat) back_is ∙ get_or-map seat_of hands i h (get_or hands i h).seat within in
            entries i (get_or hands i h).seat (omega (arith, ap length back_is, length-map hands seat_of, within))
            ∙ ap (λ (s : Place). entries_at i s.last.value.history) there
            ∙ ap (λ (n : ℕ). entries_at n (get_or hands i h).seat.last.value.history) (sym (number_now i h less))

        -- are what its hand added
        adds_at : (i : ℕ) (h : Hand Place R) (less : i < length old) → entries_at i board.history ≡ (did i h less).added
        adds_at i h less = entries_there i h less ∙ entries_now i h less

        -- no seat runs a rule
        none_left : (seat : ℕ) → runs_after None (entries_at seat board.history) ≡ None
        none_left seat = ⊎_elim
            (λ less. let h = some_of old seat less in ap (runs_after None) (entries_there seat h less) ∙ (did seat h less).free)
            (λ above. ap (runs_after None) (none_above seat lock.seats board.history (omega (arith, above, as_many, new.0.0)) others))
            (cases_lt seat (length old))

        none_runs_closed : NoneRuns (course_of board)
        none_runs_closed seat = sym (runs_are seat (plan_of board) board.history (start board)) ∙ none_left seat

        module _ (before now : List R) (before_is : map runner_of old ≡ before) (now_is : now ≡ map runner_of hands) where
          many_old : length before ≡ length old
          many_old = ap length (sym before_is) ∙ length-map old runner_of

          -- the runner of a place
          module _ (i : ℕ) (d : R) (less : i < length before) where
            less_old : i < length old
            less_old = omega (arith, many_old, less)

            hand : Hand Place R
            hand = some_of old i less_old

            runner_before : get_or before i d ≡ (get_or old i hand).runner
            runner_before = ap (λ (l : List R). get_or l i d) (sym before_is) ∙ get_or-map runner_of old i hand d less_old

            runner_now : get_or now i d ≡ (get_or hands i hand).runner
            runner_now = ap (λ (l : List R). get_or l i d) now_is ∙ get_or-map runner_of hands i hand d (omega (arith, long, less_old))

            abbrev work : Did (get_or old i hand) (get_or hands i hand)
            work = did i hand less_old

            -- what its hand added holds the events of its seat
            stops_there : Contains board.history (Stop i Run) → Contains work.added (Stop (get_or old i hand).seat.number Run)
            stops_there there =
                subst (λ (n : ℕ). Contains work.added (Stop n Run)) (sym (number_there i hand less_old))
                (subst (λ (l : List CoreEvent). Contains l (Stop i Run)) (adds_at i hand less_old) (among_entries i board.history (Stop i Run) refl there))

            stops_all : Contains work.added (Stop (get_or old i hand).seat.number Run) → Contains board.history (Stop i Run)
            stops_all there =
                among_all i board.history (Stop i Run)
                (subst (λ (l : List CoreEvent). Contains l (Stop i Run)) (sym (adds_at i hand less_old)) (subst (λ (n : ℕ). Contains work.added (Stop n Run)) (number_there i hand less_old) there))

            ran_there : RanBy plan (get_or old i hand).seat.number work.added (runner.ran (get_or old i hand).runner) (runner.ran (get_or hands i hand).runner)
                → RanAt plan i board.history (runner.ran (get_or before i d)) (runner.ran (get_or now i d))
            ran_there by =
                subst (λ (r : R). RanAt plan i board.history (runner.ran r) (runner.ran (get_or now i d))) (sym runner_before)
                (subst (λ (r : R). RanAt plan i board.history (runner.ran (get_or old i hand).runner) (runner.ran r)) (sym runner_now)
                (⊎_elim inl (λ part. inr (among_all i board.history (Stop i Memory) part.0, part.1)) at_place))
              where
                at_place : RanBy plan i (entries_at i board.history) (runner.ran (get_or old i hand).runner) (runner.ran (get_or hands i hand).runner)
                at_place = subst (λ (l : List CoreEvent). RanBy plan i l (runner.ran (get_or old i hand).runner) (runner.ran (get_or hands i hand).runner)) (sym (adds_at i hand less_old))
                    (subst (λ (n : ℕ). RanBy plan n work.added (runner.ran (get_or old i hand).runner) (runner.ran (get_or hands i hand).runner)) (number_there i hand less_old) by)

          -- what a crew leaves
          pub leaves_closed : Leaves site runner plan lock.first.value board before now
          leaves_closed = record {
            opening = opening;
            none_runs = none_runs_closed;
            below = subst (λ (n : ℕ). All (λ event. seat_at event < n) board.history) (sym (many_old ∙ as_many ∙ new.0.0)) others;
            many = ap length now_is ∙ length-map hands runner_of ∙ long ∙ sym many_old;
            ran = λ tells i d less. ran_there i d less ((work i d less).ran tells);
            stood = λ i d less not.
                ap runner.faults (runner_now i d less) ∙ (work i d less).steady (λ there. not (stops_all i d less there)) ∙ ap runner.faults (sym (runner_before i d less));
            failed = λ i d less there.
                subst (λ (r : R). Rose (runner.faults r) (runner.faults (get_or now i d))) (sym (runner_before i d less))
                (subst (λ (r : R). Rose (runner.faults (get_or old i (hand i d less)).runner) (runner.faults r)) (sym (runner_now i d less)) ((work i d less).cause (stops_there i d less there)));
            steady = λ going. sym (steady going).1;
          }
