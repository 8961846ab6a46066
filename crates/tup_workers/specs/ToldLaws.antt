-- Asks of a seat's command, one after another, as the seat is told.
use Rattle.std.proofs.Common.{◌≡◌, ℕ, Bool, true, false, List, [], ◌++◌, Option, None, Some, refl, sym, ap, ◌∙◌, subst, ⊎_elim, inl, inr, append_assoc}
use Rattle.std.proofs.lemmas.Bool.{true≢false}
use Rattle.std.proofs.lemmas.List.{append-nil}
use Rattle.std.proofs.lemmas.List.Elements.{All-append, All-nil}
use Rattle.tup_stamp.specs.declared.Stamp.{Stamp}
use Rattle.tup_runner.specs.Next.{Asks}
use Rattle.tup_runner.specs.Refusal.{Refusal}
use Rattle.tup_access.specs.declared.verdict.Verdict.{Verdict}
use Rattle.tup_core.specs.declared.event.CoreEvent.{CoreEvent}
use Rattle.tup_core.specs.Run.{claims}
use Rattle.tup_board.specs.CameLaws.{claims_both, known_both, no_place, none_failed, stamped_both}
use Rattle.tup_board.specs.Entries.{runs_after}
use Rattle.tup_board.specs.Seat.{IsDenial, has_failed}
use Rattle.tup_workers.specs.Told.{CameBy, KeepsBy, NeverRun, Told, runs}

module _ (tells : Bool) where
  pub keeps_none : (a : Told) (refusal : Option Refusal) → KeepsBy tells a refusal a refusal
  keeps_none a refusal = record {
    added = [];
    adds = sym (append-nil a.entries);
    none_claimed = refl;
    never_run = All-nil NeverRun;
    known = λ yes content had. had;
    stays = inr (refl, refl);
    left = λ failed fine. absurd (true≢false (sym failed ∙ fine));
    goes = λ fine running here. (running, here, refl);
  }

  pub came_none : (a : Told) (refusal : Option Refusal) → CameBy tells a refusal [] a refusal
  came_none a refusal = record {
    keeps = keeps_none a refusal;
    asked = λ fine running here. record {
      now = running;
      more = [];
      runs_now = here;
      same = refl;
      asked = sym (append-nil running.asks);
      stamps = tt;
      known = λ yes text content within. no_place within.0 within.1;
      denied = inl (refl, refl);
    };
  }

  module _ (a b c : Told) (first next last : Option Refusal) where
    -- where the last ask was fine, so were those before
    next_fine : KeepsBy tells b next c last → has_failed last ≡ false → has_failed next ≡ false
    next_fine two fine = ⊎_elim (none_failed next) (λ same. ap has_failed (sym same.0) ∙ fine) two.stays

    -- a denial stays with the refusal
    denial_stays : KeepsBy tells b next c last → (denied : Option (List ℕ × Verdict)) → IsDenial next denied → IsDenial last denied
    denial_stays two denied it = record {
      text = it.text;
      verdict = it.verdict;
      refused = ⊎_elim (λ none. absurd (some_none (sym it.refused ∙ none))) (λ same. same.0 ∙ it.refused) two.stays;
      is = it.is;
    }
      where
        some_none : {refusal : Refusal} → Some refusal ≡ None → ⊥
        some_none e = cc

    left_both : KeepsBy tells a first b next → KeepsBy tells b next c last → (bad : Bool) → has_failed next ≡ bad → has_failed last ≡ true → has_failed first ≡ false → runs c ≡ None
    left_both one two false is failed fine = two.left failed is
    left_both one two true is failed fine =
        ⊎_elim (λ none. absurd (true≢false (sym is ∙ none_failed next none))) (λ same. ap (runs_after None) same.1 ∙ one.left is fine) two.stays

    pub keeps_then : KeepsBy tells a first b next → KeepsBy tells b next c last → KeepsBy tells a first c last
    keeps_then one two = record {
      added = one.added ++ two.added;
      adds = two.adds ∙ ap (λ (l : List CoreEvent). l ++ two.added) one.adds ∙ append_assoc a.entries one.added two.added;
      none_claimed = claims_both one.added two.added ∙ ap (λ (l : List ℕ). l ++ claims two.added) one.none_claimed ∙ two.none_claimed;
      never_run = All-append NeverRun one.added two.added one.never_run two.never_run;
      known = λ yes content had. two.known yes content (one.known yes content had);
      stays = ⊎_elim inl (λ same. ⊎_elim (λ none. inl (sym same.0 ∙ none)) (λ also. inr (also.0 ∙ same.0, also.1 ∙ same.1)) two.stays) one.stays;
      left = λ failed fine. left_both one two (has_failed next) refl failed fine;
      goes = λ fine running here.
          let before = one.goes (next_fine two fine) running here in
          let after = two.goes fine before.0 before.1 in (after.0, after.1, after.2 ∙ before.2);
    }

    pub came_then : (some more : Asks) → CameBy tells a first some b next → CameBy tells b next more c last → CameBy tells a first (some ++ more) c last
    came_then some more one two = record {
      keeps = keeps_then one.keeps two.keeps;
      asked = λ fine running here.
          let before = one.asked (next_fine two.keeps fine) running here in
          let after = two.asked fine before.now before.runs_now in
          record {
            now = after.now;
            more = before.more ++ after.more;
            runs_now = after.runs_now;
            same = after.same ∙ before.same;
            asked = after.asked ∙ ap (λ (asks : List (List ℕ × Option Stamp)). asks ++ after.more) before.asked ∙ append_assoc running.asks before.more after.more;
            stamps = stamped_both before.more after.more some more before.stamps after.stamps;
            known = λ yes. known_both c.known some more (λ text content within. two.keeps.known yes content (before.known yes text content within)) (after.known yes);
            denied = ⊎_elim
                (λ same. ⊎_elim (λ was. inl (same.0 ∙ was.0, same.1 ∙ was.1)) (λ denial. inr (subst (IsDenial last) (sym same.1) (denial_stays two.keeps before.now.denied denial))) before.denied)
                inr after.denied;
          };
    }
