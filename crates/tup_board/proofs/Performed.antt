-- What the run of a command leaves that seat 0 of a board runs.
use Rattle.std.proofs.Common.{◌≡◌, ◌≢◌, ◌⊎◌, ℕ, Bool, true, false, List, [], Option, None, Some, Result, Ok, Err, refl, sym, ap, ◌∙◌, subst, inl, inr, arith, ⊎_elim}
use Rattle.std.specs.Prelude.{IfErr, IfOk, IsTrue, slice_get}
use Rattle.std.proofs.lemmas.Option.{none-some, same_Some}
use Rattle.tup_path.specs.Name.{Names}
use Rattle.tup_stamp.specs.declared.Stamp.{Stamp}
use Rattle.tup_rule.specs.declared.rule.Rule.{Rule}
use Rattle.tup_site.specs.declared.site.Site.{Ghosts as Site}
use Rattle.tup_runner.specs.Next.{Asks}
use Rattle.tup_runner.specs.Refusal.{Refusal}
use Rattle.tup_runner.specs.Honest.{AsksAfter}
use Rattle.tup_runner.specs.Run.{RunsAs, WasRefused}
use Rattle.tup_runner.specs.declared.fault.RunFailed.{RunFailed}
use Rattle.tup_runner.specs.declared.fault.RunFailed.TheVariants.{Denied as RunDenied, View as ByView, Fault as ByRunner, Memory as NoMemory}
use Rattle.tup_runner.specs.declared.step.Ended.{Ended}
use Rattle.tup_runner.specs.declared.fault.ViewFailed.TheVariants.{Denied}
use Rattle.tup_runner.specs.declared.step.Step.{Step}
use Rattle.tup_runner.specs.declared.step.Step.TheVariants.{Ask as AsksFor}
use Rattle.tup_runner.specs.declared.runner.Runner.{Ghosts as Runner}
use Rattle.tup_core.specs.declared.event.Cause.TheVariants as causes
use Rattle.tup_core.specs.declared.plan.Plan.{Plan}
use Rattle.tup_core.specs.declared.running.Running.{Running}
use Rattle.tup_schedule.specs.Course.{RunsRule}
use Rattle.tup_board.specs.Board.{BoardState, Opening, course_of, plan_of, state}
use Rattle.tup_board.specs.Calls.{AreStamped, IsReportOf, MeansDenied, StartsAlone}
use Rattle.tup_board.specs.Seat.{CameBy, HasAsked, IsDenial, KeepsSeat, Performs, has_failed}
use Rattle.tup_board.proofs.Ending.{answered_of}

module _ {S : Type 0} (site : Site S) (old new : BoardState S) (number : ℕ) (starts : StartsAlone old number) (is : Option Refusal) where
  -- what it began with
  abbrev begun : Running
  begun = record { rule = number; asks = []; denied = None }

  -- unless the files couldn't be reached nothing is stopped; else the seat runs nothing
  pub goes : KeepsSeat site 0 old None new is → has_failed is ≡ false → (state new).stopped ≡ None
  goes keeps fine = keeps.going fine ∙ starts.going

  pub ends : KeepsSeat site 0 old None new is → has_failed is ≡ true → (state new).seats 0 ≡ None
  ends keeps failed = keeps.left failed refl

  pub never_run : KeepsSeat site 0 old None new is → (state new).stopped ≢ Some causes.Run
  never_run keeps run = none-some causes.Run (sym starts.going ∙ keeps.never_run run)

  module _ (asks : Asks) (came : CameBy site 0 old None asks new is) (fine : has_failed is ≡ false) where
    abbrev has : HasAsked site 0 begun None asks new is
    has = came.asked fine begun starts.here

    same_plan : plan_of new ≡ plan_of old
    same_plan = ap (λ (o : Opening S). o.plan) came.keeps.from.opening

    abbrev runs : RunsRule (course_of new) 0
    runs = record {
      running = has.now;
      rule = starts.rule;
      runs = record {
        within = omega arith;
        here = has.runs;
        placed = ap (λ (p : Plan). slice_get p.rules has.now.rule) same_plan ∙ ap (slice_get (plan_of old).rules) has.same ∙ starts.placed;
      };
    }

    stamped : AreStamped has.now.asks asks
    stamped = subst (λ (given : List (List ℕ × Option Stamp)). AreStamped given asks) (sym has.asked) has.stamps

    -- ---- a report of it
    pub report_of : is ≡ None → (dir : Names) (text : List ℕ) → dir ≡ starts.rule.dir → text ≡ starts.rule.text → IsReportOf site new 0 dir text asks
    report_of none dir text dir_is text_is = record {
      it = record { it = runs; granted = granted };
      dir_is = dir_is;
      text_is = text_is;
      asks_are = stamped;
      known = has.known;
    }
      where
        granted : has.now.denied ≡ None
        granted = ⊎_elim (λ same. same.1) (λ denial. absurd (none-some _ (sym none ∙ denial.refused))) has.denied

    -- ---- it was denied an ask
    module _ {R : Type 0} (runner : Runner R) (last : List ℕ) (refused : is ≡ Some (record { text = last; why = Denied })) (means : IsTrue runner.tells → AsksAfter (runner.next starts.rule.dir starts.rule.text) asks last) where
      same_text : (one other : List ℕ) → (let left : Option Refusal = Some (record { text = one; why = Denied }) in left) ≡ Some (record { text = other; why = Denied }) → one ≡ other
      same_text one other e = ap (λ (r : Refusal). r.text) (same_Some _ _ e)

      denied_so : IsDenial is has.now.denied → MeansDenied site runner new 0
      denied_so denial = record {
        was = record { it = runs; text = denial.text; verdict = denial.verdict; denied = denial.is };
        means = λ told tells. (
          record {
            asks = asks;
            stamps = answered_of (site.known new.site) has.now.asks asks stamped (has.known told);
            just = (means tells).before;
          },
          (means tells).asks_it ∙ ap AsksFor (same_text last denial.text (sym refused ∙ denial.refused)),
        );
      }

      by_denial : ((is ≡ None) × (has.now.denied ≡ None)) ⊎ IsDenial is has.now.denied → MeansDenied site runner new 0
      by_denial (inl same) = absurd (none-some _ (sym same.0 ∙ refused))
      by_denial (inr denial) = denied_so denial

      pub denied_by : MeansDenied site runner new 0
      denied_by = by_denial has.denied

  pub denied_of : {R : Type 0} (runner : Runner R) → WasRefused runner.tells (runner.next starts.rule.dir starts.rule.text) (λ asks. CameBy site 0 old None asks new is) is Denied → MeansDenied site runner new 0
  denied_of runner was = denied_by was.asks was.came_by (ap has_failed was.refused) runner was.last was.refused was.means

-- ---- all of it, by the answer
module _ {S R : Type 0} (site : Site S) (runner : Runner R) (old new : BoardState S) (number : ℕ) (starts : StartsAlone old number) (is : Option Refusal) (keeps : KeepsSeat site 0 old None new is) where
  abbrev Ran : {A : Type 0} → Result A RunFailed → Type 0
  Ran result = Performs site runner old result new

  -- what the run of its runner leaves
  abbrev Did : RunFailed → Type 0
  Did failed = RunsAs runner.tells (runner.next starts.rule.dir starts.rule.text) (λ asks. CameBy site 0 old None asks new is) is (let ended : Result Ended RunFailed = Err failed in ended)

  granted_fine : is ≡ None → has_failed is ≡ false
  granted_fine none = ap has_failed none

  goes_on : {A : Type 0} → is ≡ None → (result : Result A RunFailed) → result ≢ Err RunDenied → result ≢ Err ByView → Ran result
  goes_on none result denied view = record {
    from = keeps.from;
    denied = λ e. absurd (denied e);
    view = λ e. absurd (view e);
    going = λ other. goes site old new number starts is keeps (granted_fine none);
    never_run = never_run site old new number starts is keeps;
    steady = keeps.steady;
  }

  pub performs_ok : {A : Type 0} → is ≡ None → (value : A) → Performs site runner old (Ok value) new
  performs_ok none value = goes_on none (Ok value) (λ e. cc) (λ e. cc)

  pub performs_err : {A : Type 0} (failed : RunFailed) → Did failed → (let result : Result A RunFailed = Err failed in Performs site runner old result new)
  performs_err {A} RunDenied did = record {
    from = keeps.from;
    denied = λ e. denied_of site old new number starts is runner did;
    view = λ e. absurd (not_view e);
    going = λ other. goes site old new number starts is keeps (ap has_failed did.refused);
    never_run = never_run site old new number starts is keeps;
    steady = keeps.steady;
  }
    where
      not_view : (let result : Result A RunFailed = Err RunDenied in result) ≡ Err ByView → ⊥
      not_view e = cc
  performs_err {A} ByView did = record {
    from = keeps.from;
    denied = λ e. absurd (not_denied e);
    view = λ e. ends site old new number starts is keeps (ap has_failed did.refused);
    going = λ other. absurd (other refl);
    never_run = never_run site old new number starts is keeps;
    steady = keeps.steady;
  }
    where
      not_denied : (let result : Result A RunFailed = Err ByView in result) ≡ Err RunDenied → ⊥
      not_denied e = cc
  performs_err ByRunner did = goes_on did.granted (Err ByRunner) (λ e. cc) (λ e. cc)
  performs_err NoMemory did = goes_on did (Err NoMemory) (λ e. cc) (λ e. cc)

-- ---- as a view of its seat sees it
runs_as : (tells : Bool) (does : Asks → Step) (One Other : Asks → Type 0) (is : Option Refusal) → ((asks : Asks) → One asks → Other asks) → (failed : RunFailed)
    → RunsAs tells does One is (let ended : Result Ended RunFailed = Err failed in ended) → RunsAs tells does Other is (let ended : Result Ended RunFailed = Err failed in ended)
runs_as tells does One Other is more RunDenied did = record { asks = did.asks; last = did.last; came_by = more did.asks did.came_by; means = did.means; refused = did.refused }
runs_as tells does One Other is more ByView did = record { asks = did.asks; last = did.last; came_by = more did.asks did.came_by; means = did.means; refused = did.refused }
runs_as tells does One Other is more ByRunner did = record { asks = did.asks; came_by = more did.asks did.came_by; means = did.means; granted = did.granted }
runs_as tells does One Other is more NoMemory did = did

module _ {S R : Type 0} (site : Site S) (runner : Runner R) (old new : BoardState S) (number : ℕ) (starts : StartsAlone old number) (seat last : ℕ) (here : seat ≡ 0) (was is : Option Refusal) (none : was ≡ None)
    (keeps : KeepsSeat site seat old was new is) (rule : Rule) (rule_is : rule ≡ starts.rule) where
  abbrev Came : Asks → Type 0
  Came asks = (last ≡ seat) × CameBy site seat old was asks new is

  keeps_at : KeepsSeat site 0 old None new is
  keeps_at = subst (λ (n : ℕ). KeepsSeat site n old None new is) here (subst (λ (w : Option Refusal). KeepsSeat site seat old w new is) none keeps)

  came_at : (asks : Asks) → Came asks → CameBy site 0 old None asks new is
  came_at asks came = subst (λ (n : ℕ). CameBy site n old None asks new is) here (subst (λ (w : Option Refusal). CameBy site seat old w asks new is) none came.1)

  pub performed_by : {A : Type 0} (Says : A → Type 0) → ((value : A) → Says value → is ≡ None) → (result : Result A RunFailed) → IfOk result Says
      → IfErr result (λ failed. RunsAs runner.tells (runner.next rule.dir rule.text) Came is (let ended : Result Ended RunFailed = Err failed in ended)) → Performs site runner old result new
  performed_by Says granted (Ok value) ok err = performs_ok site runner old new number starts is keeps_at (granted value ok) value
  performed_by Says granted (Err failed) ok err =
      performs_err site runner old new number starts is keeps_at failed
      (subst (λ (r : Rule). RunsAs runner.tells (runner.next r.dir r.text) (λ asks. CameBy site 0 old None asks new is) is (let ended : Result Ended RunFailed = Err failed in ended)) rule_is
      (runs_as runner.tells (runner.next rule.dir rule.text) Came (λ asks. CameBy site 0 old None asks new is) is came_at failed err))

  pub reported_by : (dir : Names) (text : List ℕ) (asks : Asks) → dir ≡ rule.dir → text ≡ rule.text → Came asks → is ≡ None → IsReportOf site new 0 dir text asks
  reported_by dir text asks dir_is text_is came granted =
      report_of site old new number starts is asks (came_at asks came) (ap has_failed granted) granted dir text (dir_is ∙ ap (λ (r : Rule). r.dir) rule_is) (text_is ∙ ap (λ (r : Rule). r.text) rule_is)

-- what holds of an answer holds so of it
pub if_ok_so : {A E : Type 0} (One Other : A → Type 0) → ((value : A) → One value → Other value) → (result : Result A E) → IfOk result One → IfOk result Other
if_ok_so One Other more (Ok value) one = more value one
if_ok_so One Other more (Err failed) one = tt
