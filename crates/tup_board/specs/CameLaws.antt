-- Asks of a seat's command, one behind another.
use Rattle.std.proofs.Common.{◌≡◌, ℕ, ◌<◌, Bool, true, false, List, [], ◌∷◌, ◌++◌, Option, None, Some, refl, sym, ap, ◌∙◌, subst, ⊎_elim, inl, inr, append_assoc, arith}
use Rattle.std.proofs.lemmas.Bool.{true≢false}
use Rattle.std.proofs.lemmas.List.{append-nil}
use Rattle.std.proofs.lemmas.List.Elements.{All-nil, All-append, Contains-append_cases}
use Rattle.std.proofs.lemmas.Option.{none-some}
use Rattle.tup_path.specs.Name.{Content}
use Rattle.tup_stamp.specs.declared.Stamp.{Stamp}
use Rattle.tup_site.specs.declared.site.Site.{Ghosts as Site}
use Rattle.tup_runner.specs.Next.{Asks}
use Rattle.tup_runner.specs.Refusal.{Refusal}
use Rattle.tup_runner.specs.declared.step.Answer.TheVariants.{Content as Holds}
use Rattle.tup_access.specs.declared.verdict.Verdict.{Verdict}
use Rattle.tup_core.specs.declared.event.Cause.TheVariants.{Site as Failed}
use Rattle.tup_core.specs.declared.event.CoreEvent.{CoreEvent}
use Rattle.tup_core.specs.declared.event.CoreEvent.TheVariants.{Claim, Ask, Deny, Finish, Stop}
use Rattle.tup_core.specs.declared.running.Running.{Running}
use Rattle.tup_core.specs.Run.{claims}
use Rattle.tup_board.specs.Board.{BoardState, seat_of, state}
use Rattle.tup_board.specs.Calls.{AreKnown, AreStamped}
use Rattle.tup_board.specs.Seat.{CameBy, HasAsked, IsDenial, IsFromSeat, KeepsSeat, has_failed}

pub claims_both : (some more : List CoreEvent) → claims (some ++ more) ≡ claims some ++ claims more
claims_both [] more = refl
claims_both (Claim seat rule ∷ some) more = ap (λ (rest : List ℕ). rule ∷ rest) (claims_both some more)
claims_both (Ask seat text answer ∷ some) more = claims_both some more
claims_both (Deny seat text verdict ∷ some) more = claims_both some more
claims_both (Finish seat given files ∷ some) more = claims_both some more
claims_both (Stop seat cause ∷ some) more = claims_both some more

pub stamped_both : (asks more : List (List ℕ × Option Stamp)) (answers others : Asks) → AreStamped asks answers → AreStamped more others → AreStamped (asks ++ more) (answers ++ others)
stamped_both [] more [] others one two = two
stamped_both [] more (given ∷ answers) others one two = absurd one
stamped_both (ask ∷ asks) more [] others one two = absurd one
stamped_both (ask ∷ asks) more (given ∷ answers) others one two = (one.0, one.1, stamped_both asks more answers others one.2 two)

pub known_both : (known : List Content) (some more : Asks) → AreKnown known some → AreKnown known more → AreKnown known (some ++ more)
known_both known some more one two text content within = ⊎_elim (one text content) (two text content) (Contains-append_cases some more (text, Holds content) within)

pub no_place : {A : Type 0} (k : ℕ) → k < 0 → A
no_place k below = absurd (omega arith)

-- a refusal that was none failed at nothing
pub none_failed : (refusal : Option Refusal) → refusal ≡ None → has_failed refusal ≡ false
none_failed refusal none = ap has_failed none

module _ {S : Type 0} (seat : ℕ) where
  from_none : (b : BoardState S) → IsFromSeat seat b b
  from_none b = record { opening = refl; events = []; adds = sym (append-nil b.history); own = All-nil _; none_claimed = refl; others = λ other apart. refl }

  pub from_both : (a b c : BoardState S) → IsFromSeat seat a b → IsFromSeat seat b c → IsFromSeat seat a c
  from_both a b c one two = record {
    opening = two.opening ∙ one.opening;
    events = one.events ++ two.events;
    adds = two.adds ∙ ap (λ (h : List CoreEvent). h ++ two.events) one.adds ∙ append_assoc a.history one.events two.events;
    own = All-append (λ event. seat_of event ≡ seat) one.events two.events one.own two.own;
    none_claimed = claims_both one.events two.events ∙ ap (λ (l : List ℕ). l ++ claims two.events) one.none_claimed ∙ two.none_claimed;
    others = λ other apart. two.others other apart ∙ one.others other apart;
  }

module _ {S : Type 0} (site : Site S) (seat : ℕ) where
  pub keeps_none : (b : BoardState S) (refusal : Option Refusal) → KeepsSeat site seat b refusal b refusal
  keeps_none b refusal = record {
    from = from_none seat b;
    known = λ tells. refl;
    stays = inr (refl, refl);
    going = λ fine. refl;
    left = λ failed fine. absurd (true≢false (sym failed ∙ fine));
    never_run = λ run. run;
    steady = λ none other. refl;
  }

  pub came_none : (b : BoardState S) (refusal : Option Refusal) → CameBy site seat b refusal [] b refusal
  came_none b refusal = record {
    keeps = keeps_none b refusal;
    asked = λ fine running here. record {
      now = running;
      more = [];
      runs = here;
      same = refl;
      asked = sym (append-nil running.asks);
      stamps = tt;
      known = λ tells text content within. no_place within.0 within.1;
      denied = inl (refl, refl);
    };
  }

  module _ (a b c : BoardState S) (first next last : Option Refusal) (two : KeepsSeat site seat b next c last) where
    -- where the last ask was fine, so were those before
    next_fine : has_failed last ≡ false → has_failed next ≡ false
    next_fine fine = ⊎_elim (none_failed next) (λ same. ap has_failed (sym same.0) ∙ fine) two.stays

    -- a denial stays with the refusal
    denial_stays : (denied : Option (List ℕ × Verdict)) → IsDenial next denied → IsDenial last denied
    denial_stays denied it = record {
      text = it.text;
      verdict = it.verdict;
      refused = ⊎_elim (λ none. absurd (some_none (sym it.refused ∙ none))) (λ same. same.0 ∙ it.refused) two.stays;
      is = it.is;
    }
      where
        some_none : {refusal : Refusal} → Some refusal ≡ None → ⊥
        some_none e = cc

    module _ (one : KeepsSeat site seat a first b next) where
      left_both : (bad : Bool) → has_failed next ≡ bad → has_failed last ≡ true → has_failed first ≡ false → (state c).seats seat ≡ None
      left_both false is failed fine = two.left failed is
      left_both true is failed fine =
          ⊎_elim (λ none. absurd (true≢false (sym is ∙ none_failed next none))) (λ same. ap (λ (it : BoardState S). (state it).seats seat) same.1 ∙ one.left is fine) two.stays

      keeps_both : KeepsSeat site seat a first c last
      keeps_both = record {
        from = from_both seat a b c one.from two.from;
        known = λ tells. two.known tells ∙ one.known tells;
        stays = ⊎_elim inl (λ same. ⊎_elim (λ none. inl (sym same.0 ∙ none)) (λ also. inr (also.0 ∙ same.0, also.1 ∙ same.1)) two.stays) one.stays;
        going = λ fine. two.going fine ∙ one.going (next_fine fine);
        left = λ failed fine. left_both (has_failed next) refl failed fine;
        never_run = λ run. one.never_run (two.never_run run);
        steady = λ none other. ⊎_elim
            (λ clear.
            let goes : (state b).stopped ≡ None = one.going (none_failed next clear) ∙ none in
            two.steady goes other ∙ one.steady none (λ is. none-some Failed (sym goes ∙ is)))
            (λ same.
            ap (λ (it : BoardState S). site.faults it.site) same.1 ∙ one.steady none (λ is. other (ap (λ (it : BoardState S). (state it).stopped) same.1 ∙ is)))
            two.stays;
      }

  module _ (a b c : BoardState S) (first next last : Option Refusal) (some more : Asks) (one : CameBy site seat a first some b next) (two : CameBy site seat b next more c last) where
    both_asked : has_failed last ≡ false → (running : Running) → (state a).seats seat ≡ Some running → HasAsked site seat running first (some ++ more) c last
    both_asked fine running here =
        let before = one.asked (next_fine a b c first next last two.keeps fine) running here in
        let behind = two.asked fine before.now before.runs in
        record {
          now = behind.now;
          more = before.more ++ behind.more;
          runs = behind.runs;
          same = behind.same ∙ before.same;
          asked = behind.asked ∙ ap (λ (asks : List (List ℕ × Option Stamp)). asks ++ behind.more) before.asked ∙ append_assoc running.asks before.more behind.more;
          stamps = stamped_both before.more behind.more some more before.stamps behind.stamps;
          known = λ tells.
              known_both (site.known c.site) some more (subst (λ (k : List Content). AreKnown k some) (sym (two.keeps.known tells)) (before.known tells)) (behind.known tells);
          denied = ⊎_elim
              (λ same. ⊎_elim (λ was. inl (same.0 ∙ was.0, same.1 ∙ was.1))
              (λ denial. inr (subst (IsDenial last) (sym same.1) (denial_stays a b c first next last two.keeps before.now.denied denial))) before.denied)
              inr behind.denied;
        }

    came_both : CameBy site seat a first (some ++ more) c last
    came_both = record { keeps = keeps_both a b c first next last two.keeps one.keeps; asked = both_asked }

pub keeps_then : {S : Type 0} (site : Site S) (seat other : ℕ) → other ≡ seat → (a b c : BoardState S) (first next last : Option Refusal) → KeepsSeat site seat a first b next
    → KeepsSeat site other b next c last → KeepsSeat site seat a first c last
keeps_then site seat other same a b c first next last one two =
    keeps_both site seat a b c first next last (subst (λ (n : ℕ). KeepsSeat site n b next c last) same two) one

pub came_then : {S : Type 0} (site : Site S) (seat other : ℕ) → other ≡ seat → (a b c : BoardState S) (first next last : Option Refusal) (some more : Asks) → CameBy site seat a first some b next
    → CameBy site other b next more c last → CameBy site seat a first (some ++ more) c last
came_then site seat other same a b c first next last some more one two =
    came_both site seat a b c first next last some more one (subst (λ (n : ℕ). CameBy site n b next more c last) same two)
