-- What the run of a command leaves that a seat of a shared board runs.
use Rattle.std.proofs.Common.{◌≡◌, ◌≢◌, ◌⊎◌, ℕ, Bool, false, List, [], Option, None, Some, Result, Ok, Err, refl, sym, ap, ◌∙◌, subst, inl, inr}
use Rattle.std.specs.Prelude.{IfErr, IfOk, IsTrue, slice_get}
use Rattle.std.proofs.lemmas.Option.{none-some, same_Some}
use Rattle.tup_path.specs.Name.{Names}
use Rattle.tup_stamp.specs.declared.Stamp.{Stamp}
use Rattle.tup_rule.specs.declared.rule.Rule.{Rule}
use Rattle.tup_runner.specs.Next.{Asks}
use Rattle.tup_runner.specs.Refusal.{Refusal}
use Rattle.tup_runner.specs.Honest.{AsksAfter}
use Rattle.tup_runner.specs.Run.{RunsAs}
use Rattle.tup_runner.specs.declared.fault.RunFailed.{RunFailed}
use Rattle.tup_runner.specs.declared.fault.RunFailed.TheVariants.{Denied as RunDenied, View as ByView, Fault as ByRunner, Memory as NoMemory}
use Rattle.tup_runner.specs.declared.fault.ViewFailed.TheVariants.{Denied}
use Rattle.tup_runner.specs.declared.step.Ended.{Ended}
use Rattle.tup_runner.specs.declared.step.Step.TheVariants.{Ask as AsksFor}
use Rattle.tup_runner.specs.declared.runner.Runner.{Ghosts as Runner}
use Rattle.tup_access.specs.declared.verdict.Verdict.{Verdict}
use Rattle.tup_core.specs.Honest.{EndsHonestly}
use Rattle.tup_core.specs.declared.event.CoreEvent.{CoreEvent}
use Rattle.tup_core.specs.declared.plan.Plan.{Plan}
use Rattle.tup_core.specs.declared.running.Running.{Running}
use Rattle.tup_board.specs.Calls.{AreKnown, AreStamped}
use Rattle.tup_board.specs.Entries.{IsReportBy, WasDeniedBy, runs_after}
use Rattle.tup_board.specs.Seat.{IsDenial, has_failed}
use Rattle.tup_board.proofs.Ending.{answered_of}
use Rattle.tup_workers.specs.Told.{CameBy, HasAskedBy, KeepsBy, Told, runs}
use Rattle.tup_workers.specs.Works.{PerformsBy, StartsBy}

module _ (tells : Bool) (plan : Plan) (number : ℕ) (old new : Told) (starts : StartsBy plan old.entries number) (is : Option Refusal) (asks : Asks) (came : CameBy tells old None asks new is) (fine : has_failed is ≡ false) where
  -- what it began with, and what it came to
  abbrev begun : Running
  begun = record { rule = number; asks = []; denied = None }

  abbrev has : HasAskedBy tells begun None asks new is
  has = came.asked fine begun starts.here

  placed : slice_get plan.rules has.now.rule ≡ Some starts.rule
  placed = ap (slice_get plan.rules) has.same ∙ starts.placed

  stamped : AreStamped has.now.asks asks
  stamped = subst (λ (given : List (List ℕ × Option Stamp)). AreStamped given asks) (sym has.asked) has.stamps

  -- ---- a report of it
  pub report_of : is ≡ None → (dir : Names) (text : List ℕ) → dir ≡ starts.rule.dir → text ≡ starts.rule.text → IsReportBy plan new.entries dir text asks
  report_of none dir text dir_is text_is = record {
    it = record { running = has.now; rule = starts.rule; runs = has.runs_now; placed = placed; granted = granted has.denied };
    dir_is = dir_is;
    text_is = text_is;
    asks_are = stamped;
  }
    where
      granted : ((is ≡ None) × (has.now.denied ≡ None)) ⊎ IsDenial is has.now.denied → has.now.denied ≡ None
      granted (inl same) = same.1
      granted (inr denial) = absurd (none-some _ (sym none ∙ denial.refused))

  -- ---- it was denied an ask
  module _ {R : Type 0} (runner : Runner R) (last : List ℕ) (refused : is ≡ Some (record { text = last; why = Denied })) (means : IsTrue runner.tells → AsksAfter (runner.next starts.rule.dir starts.rule.text) asks last) where
    same_text : (one other : List ℕ) → (let left : Option Refusal = Some (record { text = one; why = Denied }) in left) ≡ Some (record { text = other; why = Denied }) → one ≡ other
    same_text one other e = ap (λ (r : Refusal). r.text) (same_Some _ _ e)

    denial : ((is ≡ None) × (has.now.denied ≡ None)) ⊎ IsDenial is has.now.denied → IsDenial is has.now.denied
    denial (inl same) = absurd (none-some _ (sym same.0 ∙ refused))
    denial (inr it) = it

    pub denied_by : WasDeniedBy plan new.entries
    denied_by =
        let it = denial has.denied in
        record { running = has.now; rule = starts.rule; text = it.text; verdict = it.verdict; runs = has.runs_now; placed = placed; denied = it.is }

    -- as its runner means it
    pub means_so : (was : WasDeniedBy plan new.entries) → IsTrue tells → IsTrue runner.tells → EndsHonestly runner.next new.known was.rule was.running (Some (was.text, was.verdict)) was.verdict []
    means_so was told tell =
        let it = denial has.denied in
        let running_is : has.now ≡ was.running = same_Some _ _ (sym has.runs_now ∙ was.runs) in
        let rule_is : starts.rule ≡ was.rule = same_Some _ _ (sym placed ∙ ap (λ (r : Running). slice_get plan.rules r.rule) running_is ∙ was.placed) in
        let text_is : last ≡ was.text = same_text last it.text (sym refused ∙ it.refused)
        ∙ ap (λ (d : List ℕ × Verdict). d.0) (same_Some _ _ (sym it.is ∙ ap (λ (r : Running). r.denied) running_is ∙ was.denied)) in
        subst (λ (z : Rule × Running). EndsHonestly runner.next new.known z.0 z.1 (Some (was.text, was.verdict)) was.verdict []) (λ i. (rule_is i, running_is i)) (
          record { asks = asks; stamps = answered_of new.known has.now.asks asks stamped (has.known told); just = (means tell).before },
          (means tell).asks_it ∙ ap AsksFor text_is,
        )

-- the rule that a seat begins, as its view has it
pub begins_at : (plan : Plan) (entries : List CoreEvent) (number : ℕ) (starts : StartsBy plan entries number) (rule : Rule) → slice_get plan.rules number ≡ Some rule → (running : Running) → runs_after None entries ≡ Some running
    → slice_get plan.rules running.rule ≡ Some rule
begins_at plan entries number starts rule placed running runs = ap (λ (r : Running). slice_get plan.rules r.rule) (same_Some _ _ (sym runs ∙ starts.here)) ∙ placed

-- ---- all of it, by the answer
module _ {R : Type 0} (tells : Bool) (runner : Runner R) (plan : Plan) (number : ℕ) (old new : Told) (starts : StartsBy plan old.entries number) (is : Option Refusal) (keeps : KeepsBy tells old None new is) where
  -- what it runs, unless the files couldn't be reached
  still : has_failed is ≡ false → (running : Running) × (runs new ≡ Some running)
  still fine = let now = keeps.goes fine (record { rule = number; asks = []; denied = None }) starts.here in (now.0, now.1)

  -- what the run of its runner leaves
  abbrev Did : RunFailed → Type 0
  Did failed = RunsAs runner.tells (runner.next starts.rule.dir starts.rule.text) (λ asks. CameBy tells old None asks new is) is (let ended : Result Ended RunFailed = Err failed in ended)

  goes_on : {A : Type 0} → is ≡ None → (result : Result A RunFailed) → result ≢ Err RunDenied → result ≢ Err ByView → PerformsBy tells runner plan number old result new
  goes_on none result denied view = record {
    added = keeps.added;
    adds = keeps.adds;
    none_claimed = keeps.none_claimed;
    never_run = keeps.never_run;
    denied = λ e. absurd (denied e);
    means = λ was e. absurd (denied e);
    view = λ e. absurd (view e);
    going = λ other. still (ap has_failed none);
  }

  performs_err : {A : Type 0} (failed : RunFailed) → Did failed → (let result : Result A RunFailed = Err failed in PerformsBy tells runner plan number old result new)
  performs_err {A} RunDenied did = record {
    added = keeps.added;
    adds = keeps.adds;
    none_claimed = keeps.none_claimed;
    never_run = keeps.never_run;
    denied = λ e. denied_by tells plan number old new starts is did.asks did.came_by (ap has_failed did.refused) runner did.last did.refused did.means;
    means = λ was e told tell. means_so tells plan number old new starts is did.asks did.came_by (ap has_failed did.refused) runner did.last did.refused did.means was told tell;
    view = λ e. absurd (not_view e);
    going = λ other. still (ap has_failed did.refused);
  }
    where
      not_view : (let result : Result A RunFailed = Err RunDenied in result) ≡ Err ByView → ⊥
      not_view e = cc
  performs_err {A} ByView did = record {
    added = keeps.added;
    adds = keeps.adds;
    none_claimed = keeps.none_claimed;
    never_run = keeps.never_run;
    denied = λ e. absurd (not_denied e);
    means = λ was e. absurd (not_denied e);
    view = λ e. keeps.left (ap has_failed did.refused) refl;
    going = λ other. absurd (other refl);
  }
    where
      not_denied : (let result : Result A RunFailed = Err ByView in result) ≡ Err RunDenied → ⊥
      not_denied e = cc
  performs_err ByRunner did = goes_on did.granted (Err ByRunner) (λ e. cc) (λ e. cc)
  performs_err NoMemory did = goes_on did (Err NoMemory) (λ e. cc) (λ e. cc)

  pub performs : {A : Type 0} (Says : A → Type 0) → ((value : A) → Says value → is ≡ None) → (result : Result A RunFailed) → IfOk result Says → IfErr result Did → PerformsBy tells runner plan number old result new
  performs Says granted (Ok value) ok err = goes_on (granted value ok) (Ok value) (λ e. cc) (λ e. cc)
  performs Says granted (Err failed) ok err = performs_err failed err

-- ---- as the view of its seat sees it, which had refused nothing
module _ {R : Type 0} (tells : Bool) (runner : Runner R) (plan : Plan) (number : ℕ) (old new : Told) (starts : StartsBy plan old.entries number) (was is : Option Refusal) (none : was ≡ None) (keeps : KeepsBy tells old was new is)
    (rule : Rule) (rule_is : rule ≡ starts.rule) where
  keeps_at : KeepsBy tells old None new is
  keeps_at = subst (λ (w : Option Refusal). KeepsBy tells old w new is) none keeps

  came_at : (asks : Asks) → CameBy tells old was asks new is → CameBy tells old None asks new is
  came_at asks came = subst (λ (w : Option Refusal). CameBy tells old w asks new is) none came

  pub performed_by : {A : Type 0} (Says : A → Type 0) → ((value : A) → Says value → is ≡ None) → (result : Result A RunFailed) → IfOk result Says
      → IfErr result (λ failed. RunsAs runner.tells (runner.next rule.dir rule.text) (λ asks. CameBy tells old was asks new is) is (let ended : Result Ended RunFailed = Err failed in ended)) → PerformsBy tells runner plan number old result new
  performed_by Says granted result ok err = performs tells runner plan number old new starts is keeps_at Says granted result ok
      (subst (λ (z : Option Refusal × Rule). IfErr result (λ failed. RunsAs runner.tells (runner.next z.1.dir z.1.text) (λ asks. CameBy tells old z.0 asks new is) is (let ended : Result Ended RunFailed = Err failed in ended)))
      (λ i. (none i, rule_is i)) err)

  pub reported_by : (dir : Names) (text : List ℕ) (asks : Asks) → dir ≡ rule.dir → text ≡ rule.text → CameBy tells old was asks new is → is ≡ None → IsReportBy plan new.entries dir text asks × (IsTrue tells → AreKnown new.known asks)
  reported_by dir text asks dir_is text_is came granted = (
    report_of tells plan number old new starts is asks (came_at asks came) (ap has_failed granted) granted dir text (dir_is ∙ ap (λ (r : Rule). r.dir) rule_is) (text_is ∙ ap (λ (r : Rule). r.text) rule_is),
    ((came_at asks came).asked (ap has_failed granted) (record { rule = number; asks = []; denied = None }) starts.here).known,
  )
