-- What one ask of a shared board comes to for the view of a seat.
use Rattle.std.proofs.Common.{◌≡◌, ◌≢◌, ℕ, true, List, [], ◌∷◌, ◌++◌, Option, None, Some, Result, Ok, Err, refl, sym, ap, ◌∙◌, subst, inl, inr}
use Rattle.std.specs.Prelude.{Bool, Contains, IfErr, IfOk, IsTrue, is_none, slice_get}
use Rattle.std.specs.Option.{option_map}
use Rattle.std.proofs.lemmas.Bool.{false≢true, true≢false}
use Rattle.std.proofs.lemmas.List.{append-nil}
use Rattle.std.proofs.lemmas.Option.{none-some, same_Some}
use Rattle.std.proofs.lemmas.List.Elements.{All-cons, All-nil}
use Rattle.tup_path.specs.Name.{Content}
use Rattle.tup_stamp.specs.declared.Stamp.{Stamp}
use Rattle.tup_stamp.specs.Stamp.{stamp}
use Rattle.tup_runner.specs.Refusal.{Refusal}
use Rattle.tup_runner.specs.declared.fault.ViewFailed.{ViewFailed}
use Rattle.tup_runner.specs.declared.fault.ViewFailed.TheVariants.{Denied, Fault, Memory}
use Rattle.tup_runner.specs.declared.step.Answer.{Answer}
use Rattle.tup_runner.specs.declared.step.Answer.TheVariants.{Content as Holds, Absent as Nothing}
use Rattle.tup_rule.specs.declared.rule.Rule.{Rule}
use Rattle.tup_access.specs.declared.verdict.Verdict.{Verdict}
use Rattle.tup_core.specs.declared.event.Cause.{Cause}
use Rattle.tup_core.specs.declared.event.Cause.TheVariants as causes
use Rattle.tup_core.specs.declared.event.CoreEvent.{CoreEvent}
use Rattle.tup_core.specs.declared.event.CoreEvent.TheVariants.{Ask, Deny, Stop}
use Rattle.tup_core.specs.declared.plan.Plan.{Plan}
use Rattle.tup_core.specs.declared.running.Running.{Running}
use Rattle.tup_core.specs.Step.{asked, refused}
use Rattle.tup_rule_outputs.specs.declared.fault.BoardFault.{BoardFault}
use Rattle.tup_rule_outputs.specs.declared.fault.BoardFault.TheVariants as fault_by
use Rattle.tup_board.specs.declared.answers.Asked.{Asked}
use Rattle.tup_board.specs.declared.answers.Asked.TheVariants as reply_by
use Rattle.tup_board.specs.Calls.{AreKnown, IsStampOf, ask_events}
use Rattle.tup_board.specs.CameLaws.{no_place}
use Rattle.tup_board.specs.Entries.{GoesOnBy, after_entry, runs_after}
use Rattle.tup_board.specs.Seat.{answer_by, is_granted, refused_by, told_by}
use Rattle.tup_board.proofs.Seeing.{none_known, one_known}
use Rattle.tup_workers.specs.Told.{CameBy, KeepsBy, NeverRun, Told, runs}

-- what a seat runs after more entries
pub runs_both : (start : Option Running) (some more : List CoreEvent) → runs_after start (some ++ more) ≡ runs_after (runs_after start some) more
runs_both start [] more = refl
runs_both start (entry ∷ some) more = runs_both (after_entry start entry) some more

module _ (tells : Bool) (number : ℕ) (text : List ℕ) (old new : Told) (known : IsTrue tells → (content : Content) → Contains old.known content → Contains new.known content) where
  -- these entries were added
  abbrev Adds : List CoreEvent → Type 0
  Adds added = new.entries ≡ old.entries ++ added

  runs_then : (added : List CoreEvent) → Adds added → runs new ≡ runs_after (runs old) added
  runs_then added adds = ap (runs_after None) adds ∙ runs_both None old.entries added

  -- ---- an ask was answered
  came_answer : (given : Option Stamp) (answer : Answer) → IsStampOf given answer → (IsTrue tells → AreKnown new.known ((text, answer) ∷ [])) → Adds (Ask number text given ∷ []) → CameBy tells old None ((text, answer) ∷ []) new None
  came_answer given answer stamps there adds = record {
    keeps = record {
      added = Ask number text given ∷ [];
      adds = adds;
      none_claimed = refl;
      never_run = All-cons NeverRun (Ask number text given) [] tt (All-nil NeverRun);
      known = known;
      stays = inl refl;
      left = λ failed fine. absurd (false≢true failed);
      goes = λ fine running here. (asked text given running, runs_then (Ask number text given ∷ []) adds ∙ ap (option_map (asked text given)) here, refl);
    };
    asked = λ fine running here. record {
      now = asked text given running;
      more = (text, given) ∷ [];
      runs_now = runs_then (Ask number text given ∷ []) adds ∙ ap (option_map (asked text given)) here;
      same = refl;
      asked = refl;
      stamps = (refl, stamps, tt);
      known = there;
      denied = inl (refl, refl);
    };
  }

  -- ---- it was denied
  came_denied : (verdict : Verdict) → Adds (Deny number text verdict ∷ []) → CameBy tells old None [] new (Some (record { text = text; why = Denied }))
  came_denied verdict adds = record {
    keeps = record {
      added = Deny number text verdict ∷ [];
      adds = adds;
      none_claimed = refl;
      never_run = All-cons NeverRun (Deny number text verdict) [] tt (All-nil NeverRun);
      known = known;
      stays = inl refl;
      left = λ failed fine. absurd (false≢true failed);
      goes = λ fine running here. (refused text verdict running, runs_then (Deny number text verdict ∷ []) adds ∙ ap (option_map (refused text verdict)) here, refl);
    };
    asked = λ fine running here. record {
      now = refused text verdict running;
      more = [];
      runs_now = runs_then (Deny number text verdict ∷ []) adds ∙ ap (option_map (refused text verdict)) here;
      same = refl;
      asked = sym (append-nil running.asks);
      stamps = tt;
      known = λ yes t content within. no_place within.0 within.1;
      denied = inr (record { text = text; verdict = verdict; refused = refl; is = refl });
    };
  }

  -- ---- the files couldn't be reached: the seat stopped
  came_stopped : (cause : Cause) → NeverRun (Stop number cause) → Adds (Stop number cause ∷ []) → CameBy tells old None [] new (Some (record { text = text; why = Fault }))
  came_stopped cause other adds = record {
    keeps = record {
      added = Stop number cause ∷ [];
      adds = adds;
      none_claimed = refl;
      never_run = All-cons NeverRun (Stop number cause) [] other (All-nil NeverRun);
      known = known;
      stays = inl refl;
      left = λ failed fine. runs_then (Stop number cause ∷ []) adds;
      goes = λ fine running here. absurd (true≢false fine);
    };
    asked = λ fine running here. absurd (true≢false fine);
  }

  -- ---- there was no memory: nothing happened
  came_nowhere : Adds [] → CameBy tells old None [] new None
  came_nowhere adds = record {
    keeps = record {
      added = [];
      adds = adds;
      none_claimed = refl;
      never_run = All-nil NeverRun;
      known = known;
      stays = inl refl;
      left = λ failed fine. absurd (false≢true failed);
      goes = λ fine running here. (running, runs_then [] adds ∙ here, refl);
    };
    asked = λ fine running here. record {
      now = running;
      more = [];
      runs_now = runs_then [] adds ∙ here;
      same = refl;
      asked = sym (append-nil running.asks);
      stamps = tt;
      known = λ yes t content within. no_place within.0 within.1;
      denied = inl (refl, refl);
    };
  }

  -- ---- by the answer
  pub came_by : (result : Result Asked BoardFault) → (IsTrue tells → (content : Content) → result ≡ Ok (reply_by.Content content) → Contains new.known content) → Adds (ask_events number text result)
      → CameBy tells old None (told_by text result) new (refused_by text result)
  came_by (Ok (reply_by.Content content)) told adds = came_answer (Some (stamp content)) (Holds content) refl (λ yes. one_known new.known text content (told yes content refl)) adds
  came_by (Ok reply_by.Absent) told adds = came_answer None Nothing refl (λ yes. none_known new.known text) adds
  came_by (Ok (reply_by.Denied verdict)) told adds = came_denied verdict adds
  came_by (Err fault_by.Site) told adds = came_stopped causes.Site tt adds
  came_by (Err (fault_by.TooLarge bytes)) told adds = came_stopped (causes.TooLarge bytes) tt adds
  came_by (Err fault_by.Full) told adds = came_stopped causes.Full tt adds
  came_by (Err fault_by.Memory) told adds = came_nowhere adds

  -- where nothing was refused its command may ask again
  pub granted_on : (result : Result Asked BoardFault) → Adds (ask_events number text result) → is_granted (runs old) ≡ true → refused_by text result ≡ None → is_granted (runs new) ≡ true
  granted_on (Ok (reply_by.Content content)) adds granted none = ap is_granted (runs_then (Ask number text (Some (stamp content)) ∷ []) adds) ∙ same_granted (Some (stamp content)) (runs old) ∙ granted
    where
      same_granted : (given : Option Stamp) (it : Option Running) → is_granted (option_map (asked text given) it) ≡ is_granted it
      same_granted given None = refl
      same_granted given (Some running) = refl
  granted_on (Ok reply_by.Absent) adds granted none = ap is_granted (runs_then (Ask number text None ∷ []) adds) ∙ same_granted (runs old) ∙ granted
    where
      same_granted : (it : Option Running) → is_granted (option_map (asked text None) it) ≡ is_granted it
      same_granted None = refl
      same_granted (Some running) = refl
  granted_on (Ok (reply_by.Denied verdict)) adds granted none = cc
  granted_on (Err fault_by.Site) adds granted none = cc
  granted_on (Err (fault_by.TooLarge bytes)) adds granted none = cc
  granted_on (Err fault_by.Full) adds granted none = cc
  granted_on (Err fault_by.Memory) adds granted none = ap is_granted (runs_then [] adds) ∙ granted

  -- what is so of the rule that it ran is so of the one that it runs
  module _ (P : ℕ → Type 0) (had : (running : Running) → runs old ≡ Some running → P running.rule) where
    same_rule : (f : Running → Running) → ((running : Running) → (f running).rule ≡ running.rule) → (it : Option Running) → runs old ≡ it → (now : Running) → option_map f it ≡ Some now → P now.rule
    same_rule f same None is now e = absurd (none-some now e)
    same_rule f same (Some running) is now e = subst P (sym (same running) ∙ ap (λ (r : Running). r.rule) (same_Some _ _ e)) (had running is)

    pub rule_on : (result : Result Asked BoardFault) → Adds (ask_events number text result) → (now : Running) → runs new ≡ Some now → P now.rule
    rule_on (Ok (reply_by.Content content)) adds now e = same_rule (asked text (Some (stamp content))) (λ running. refl) (runs old) refl now (sym (runs_then (Ask number text (Some (stamp content)) ∷ []) adds) ∙ e)
    rule_on (Ok reply_by.Absent) adds now e = same_rule (asked text None) (λ running. refl) (runs old) refl now (sym (runs_then (Ask number text None ∷ []) adds) ∙ e)
    rule_on (Ok (reply_by.Denied verdict)) adds now e = same_rule (refused text verdict) (λ running. refl) (runs old) refl now (sym (runs_then (Deny number text verdict ∷ []) adds) ∙ e)
    rule_on (Err fault_by.Site) adds now e = absurd (none-some now (sym (runs_then (Stop number causes.Site ∷ []) adds) ∙ e))
    rule_on (Err (fault_by.TooLarge bytes)) adds now e = absurd (none-some now (sym (runs_then (Stop number (causes.TooLarge bytes) ∷ []) adds) ∙ e))
    rule_on (Err fault_by.Full) adds now e = absurd (none-some now (sym (runs_then (Stop number causes.Full ∷ []) adds) ∙ e))
    rule_on (Err fault_by.Memory) adds now e = had now (sym (runs_then [] adds) ∙ e)

  -- ---- the same, as the view answers
  module _ (result : Result Asked BoardFault) (told : IsTrue tells → (content : Content) → result ≡ Ok (reply_by.Content content) → Contains new.known content) (adds : Adds (ask_events number text result)) (was is : Option Refusal)
      (none : was ≡ None) (noted : is ≡ refused_by text result) where
    came_seen : CameBy tells old was (told_by text result) new is
    came_seen =
        subst (λ (w : Option Refusal). CameBy tells old w (told_by text result) new is) (sym none)
        (subst (λ (i : Option Refusal). CameBy tells old None (told_by text result) new i) (sym noted) (came_by result told adds))

    pub seat_kept : KeepsBy tells old was new is
    seat_kept = came_seen.keeps

    pub came_ok : (answer : Result Answer ViewFailed) → answer ≡ answer_by result → IfOk answer (λ given. CameBy tells old was ((text, given) ∷ []) new is)
    came_ok answer is_so = subst (λ (a : Result Answer ViewFailed). IfOk a (λ given. CameBy tells old was ((text, given) ∷ []) new is)) (sym is_so) (by result came_seen)
      where
        by : (r : Result Asked BoardFault) → CameBy tells old was (told_by text r) new is → IfOk (answer_by r) (λ given. CameBy tells old was ((text, given) ∷ []) new is)
        by (Ok (reply_by.Content content)) came = came
        by (Ok reply_by.Absent) came = came
        by (Ok (reply_by.Denied verdict)) came = tt
        by (Err fault_by.Site) came = tt
        by (Err (fault_by.TooLarge bytes)) came = tt
        by (Err fault_by.Full) came = tt
        by (Err fault_by.Memory) came = tt

    pub came_err : (answer : Result Answer ViewFailed) → answer ≡ answer_by result → IfErr answer (λ failed. failed ≢ Memory → CameBy tells old was [] new is)
    came_err answer is_so = subst (λ (a : Result Answer ViewFailed). IfErr a (λ failed. failed ≢ Memory → CameBy tells old was [] new is)) (sym is_so) (by result came_seen)
      where
        by : (r : Result Asked BoardFault) → CameBy tells old was (told_by text r) new is → IfErr (answer_by r) (λ failed. failed ≢ Memory → CameBy tells old was [] new is)
        by (Ok (reply_by.Content content)) came = tt
        by (Ok reply_by.Absent) came = tt
        by (Ok (reply_by.Denied verdict)) came = λ other. came
        by (Err fault_by.Site) came = λ other. came
        by (Err (fault_by.TooLarge bytes)) came = λ other. came
        by (Err fault_by.Full) came = λ other. came
        by (Err fault_by.Memory) came = λ other. came

    pub granted_so : is_granted (runs old) ≡ true → is ≡ None → is_granted (runs new) ≡ true
    granted_so granted nothing = granted_on result adds granted (sym noted ∙ nothing)

-- a command that was denied nothing may ask
pub may_ask : (plan : Plan) (entries : List CoreEvent) (rule : Rule) → is_granted (runs_after None entries) ≡ true → ((running : Running) → runs_after None entries ≡ Some running → slice_get plan.rules running.rule ≡ Some rule)
    → GoesOnBy plan entries
may_ask plan entries rule granted placed = by (runs_after None entries) refl
  where
    none_denied : (denied : Option (List ℕ × Verdict)) → is_none denied ≡ true → denied ≡ None
    none_denied None e = refl
    none_denied (Some it) e = absurd (false≢true e)

    by : (it : Option Running) → runs_after None entries ≡ it → GoesOnBy plan entries
    by None is = absurd (false≢true (sym (ap is_granted is) ∙ granted))
    by (Some running) is = record { running = running; rule = rule; runs = is; placed = placed running is; granted = none_denied running.denied (sym (ap is_granted is) ∙ granted) }
