-- How parts of a command that follow one another are followed through a view.
use Rattle.std.proofs.Common.{◌≡◌, ℕ, zero, suc, true, List, [], ◌∷◌, ◌++◌, take, Option, None, Some, Result, Ok, Err, sym, ap, ◌∙◌, subst}
use Rattle.std.proofs.lemmas.Option.{same_Some}
use Rattle.std.specs.List.{slice_get}
use Rattle.tup_runner.specs.Next.{Asks}
use Rattle.tup_runner.specs.Refusal.{Refusal}
use Rattle.tup_runner.specs.Honest.{AsksJust}
use Rattle.tup_runner.specs.Run.{HasEnded, WasRefused, RunsAs, NeverFaults}
use Rattle.tup_runner.specs.declared.step.Ended.{Ended}
use Rattle.tup_runner.specs.declared.step.Step.TheVariants.{Ask, End}
use Rattle.tup_runner.specs.declared.step.Answer.{Answer}
use Rattle.tup_runner.specs.declared.fault.ViewFailed.{ViewFailed}
use Rattle.tup_runner.specs.declared.fault.RunFailed.{RunFailed}
use Rattle.tup_runner.specs.declared.fault.RunFailed.TheVariants.{Denied, View, Fault, Memory}
use Rattle.tup_runner.proofs.Asking.{just_none}
use Rattle.tup_mini.specs.declared.stopped.Stopped.{Stopped}
use Rattle.tup_mini.specs.declared.stopped.Stopped.TheVariants.{Status, Failed}
use Rattle.tup_mini.specs.Kept.{Kept}
use Rattle.tup_mini.specs.Part.{Outcome, Part, followed, gives, stops}
use Rattle.tup_mini.specs.Means.{ended}
use Rattle.tup_mini.specs.Through.{Leads, GoesOn, Refuses, Lacks, Follows, AtOnce}

-- ---- where answers lead

leads_both : {A : Type 0} (from mid to : Asks → Outcome A) (some more : Asks) → Leads from some mid → Leads mid more to → Leads from (some ++ more) to
leads_both {A} from mid to [] more one two = subst (λ (f : Asks → Outcome A). Leads f more to) (sym one) two
leads_both from mid to (ask ∷ some) more one two = (one.0, leads_both (λ left. from (ask ∷ left)) mid to some more one.1 two)

leads_behind : {A B : Type 0} (on : A → Part B) (from to : Asks → Outcome A) (some : Asks) → Leads from some to → Leads (λ asks. followed (from asks) on) some (λ asks. followed (to asks) on)
leads_behind on from to [] one = λ i asks. followed (one i asks) on
leads_behind on from to (ask ∷ some) one = (ap (λ o. followed o on) one.0, leads_behind on (λ left. from (ask ∷ left)) to some one.1)

leads_end : {A : Type 0} (from to : Asks → Outcome A) (some : Asks) → Leads from some to → from some ≡ to []
leads_end from to [] one = λ i. one i []
leads_end from to (ask ∷ some) one = leads_end (λ left. from (ask ∷ left)) to some one.1

leads_just : (from to : Asks → Outcome (Unit {0})) (some : Asks) → Leads from some to → AsksJust (λ asks. ended (from asks)) some
leads_just from to [] one = just_none _
leads_just from to (ask ∷ some) one = record { each = each (leads_just (λ left. from (ask ∷ left)) to some one.1).each }
  where
    each : ((at : ℕ) (next : List ℕ × Answer) → slice_get some at ≡ Some next → ended (from (ask ∷ take at some)) ≡ Ask next.0)
        → (at : ℕ) (next : List ℕ × Answer) → slice_get (ask ∷ some) at ≡ Some next → ended (from (take at (ask ∷ some))) ≡ Ask next.0
    each rest zero next here = ap ended one.0 ∙ ap (λ (a : List ℕ × Answer). Ask a.0) (same_Some _ _ here)
    each rest (suc at) next here = rest at next here

-- ---- through a view

module _ {S : Type 0} (came : S → Asks → S → Type 0) (same : S → S → Type 0) (refusal : S → Option Refusal) where
  -- there was no memory behind a part that went on
  pub lacks_behind : {A : Type 0} (old new : S) (from to : Asks → Outcome A) → GoesOn came same refusal old new from to → Lacks came same refusal old new
  lacks_behind old new from to one = record { granted = one.granted; same_view = one.same_view }

  -- a part that went on, seen with what is behind it
  pub on_behind : {A B : Type 0} (old new : S) (on : A → Part B) (from to : Asks → Outcome A) → GoesOn came same refusal old new from to
      → GoesOn came same refusal old new (λ asks. followed (from asks) on) (λ asks. followed (to asks) on)
  on_behind old new on from to one = record {
    asks = one.asks;
    came_by = one.came_by;
    leads = leads_behind on from to one.asks one.leads;
    granted = one.granted;
    same_view = one.same_view;
  }

  refused_behind : {A B : Type 0} (old new : S) (on : A → Part B) (from : Asks → Outcome A) (why : ViewFailed)
      → Refuses came same refusal old new from why → Refuses came same refusal old new (λ asks. followed (from asks) on) why
  refused_behind old new on from why one = record {
    asks = one.asks;
    last = one.last;
    to = λ asks. followed (one.to asks) on;
    came_by = one.came_by;
    leads = leads_behind on from one.to one.asks one.leads;
    asks_it = ap (λ o. followed o on) one.asks_it;
    refused = one.refused;
    same_view = one.same_view;
  }

  -- a part that didn't go on, seen with what would be behind it
  pub err_behind : {A B : Type 0} (old new : S) (on : A → Part B) (from : Asks → Outcome A) (kept : Kept) (stopped : Stopped)
      → Follows came same refusal old new from kept (Err stopped) → Follows came same refusal old new (λ asks. followed (from asks) on) kept (Err stopped)
  err_behind old new on from kept (Status status) one = on_behind old new on from (stops status kept) one
  err_behind old new on from kept (Failed Denied) one = refused_behind old new on from _ one
  err_behind old new on from kept (Failed View) one = refused_behind old new on from _ one
  err_behind old new on from kept (Failed Fault) one = one
  err_behind old new on from kept (Failed Memory) one = record { granted = one.granted; same_view = one.same_view }

  module _ (goes_on : (first next last : S) (some more : Asks) → came first some next → came next more last → came first (some ++ more) last)
      (same_on : (first next last : S) → same first next → same next last → same first last) where
    -- one after another
    pub on_then : {A : Type 0} (first next last : S) (from mid to : Asks → Outcome A) → GoesOn came same refusal first next from mid → GoesOn came same refusal next last mid to
        → GoesOn came same refusal first last from to
    on_then first next last from mid to one two = record {
      asks = one.asks ++ two.asks;
      came_by = goes_on first next last one.asks two.asks one.came_by two.came_by;
      leads = leads_both from mid to one.asks two.asks one.leads two.leads;
      granted = two.granted;
      same_view = same_on first next last one.same_view two.same_view;
    }

    refused_then : {A : Type 0} (first next last : S) (from mid : Asks → Outcome A) (why : ViewFailed) → GoesOn came same refusal first next from mid → Refuses came same refusal next last mid why
        → Refuses came same refusal first last from why
    refused_then first next last from mid why one two = record {
      asks = one.asks ++ two.asks;
      last = two.last;
      to = two.to;
      came_by = goes_on first next last one.asks two.asks one.came_by two.came_by;
      leads = leads_both from mid two.to one.asks two.asks one.leads two.leads;
      asks_it = two.asks_it;
      refused = two.refused;
      same_view = same_on first next last one.same_view two.same_view;
    }

    pub follows_then : {A : Type 0} (first next last : S) (from mid : Asks → Outcome A) (kept : Kept) (result : Result A Stopped) → GoesOn came same refusal first next from mid
        → Follows came same refusal next last mid kept result → Follows came same refusal first last from kept result
    follows_then first next last from mid kept (Ok value) one two = on_then first next last from mid (gives value kept) one two
    follows_then first next last from mid kept (Err (Status status)) one two = on_then first next last from mid (stops status kept) one two
    follows_then first next last from mid kept (Err (Failed Denied)) one two = refused_then first next last from mid _ one two
    follows_then first next last from mid kept (Err (Failed View)) one two = refused_then first next last from mid _ one two
    follows_then first next last from mid kept (Err (Failed Fault)) one two = two
    follows_then first next last from mid kept (Err (Failed Memory)) one two =
        record { granted = two.granted; same_view = same_on first next last one.same_view two.same_view }

    -- a part that went on, and then what is behind it
    pub ok_then : {A B : Type 0} (first next last : S) (on : A → Part B) (from : Asks → Outcome A) (mid kept : Kept) (value : A) (result : Result B Stopped)
        → Follows came same refusal first next from mid (Ok value) → Follows came same refusal next last (on value mid) kept result
        → Follows came same refusal first last (λ asks. followed (from asks) on) kept result
    ok_then first next last on from mid kept value result one two =
        follows_then first next last (λ asks. followed (from asks) on) (on value mid) kept result (on_behind first next on from (gives value mid) one) two

  module _ (stays : (view : S) → came view [] view) (same_itself : (view : S) → same view view) where
    -- a part that asks nothing
    pub stays_on : {A : Type 0} (now : S) (from to : Asks → Outcome A) → refusal now ≡ None → from ≡ to → GoesOn came same refusal now now from to
    stays_on now from to granted is = record { asks = []; came_by = stays now; leads = is; granted = granted; same_view = same_itself now }

    pub at_once : {A : Type 0} (now : S) (from : Asks → Outcome A) (kept : Kept) (result : Result A Stopped) → refusal now ≡ None → AtOnce from kept result
        → Follows came same refusal now now from kept result
    at_once now from kept (Ok value) granted is = stays_on now from (gives value kept) granted is
    at_once now from kept (Err (Status status)) granted is = stays_on now from (stops status kept) granted is
    at_once now from kept (Err (Failed Denied)) granted is = absurd is
    at_once now from kept (Err (Failed View)) granted is = absurd is
    at_once now from kept (Err (Failed Fault)) granted is = absurd is
    at_once now from kept (Err (Failed Memory)) granted is = record { granted = granted; same_view = same_itself now }

-- the same part in other words
pub follows_same : {S : Type 0} (came : S → Asks → S → Type 0) (same : S → S → Type 0) (refusal : S → Option Refusal) {A : Type 0} (old new : S) (from other : Asks → Outcome A) (kept : Kept) (result : Result A Stopped)
    → from ≡ other → Follows came same refusal old new other kept result → Follows came same refusal old new from kept result
follows_same came same refusal {A} old new from other kept result is one =
    subst (λ (f : Asks → Outcome A). Follows came same refusal old new f kept result) (sym is) one

-- ---- all steps

module _ {S : Type 0} (came : S → Asks → S → Type 0) (same : S → S → Type 0) (refusal : S → Option Refusal) (old new : S) (from : Asks → Outcome (Unit {0})) where
  pub ended_by : (to : Asks → Outcome (Unit {0})) (end : Ended) → GoesOn came same refusal old new from to → ended (to []) ≡ End end
      → HasEnded true (λ asks. ended (from asks)) (λ asks. came old asks new) (refusal new) end
  ended_by to end one is = record {
    asks = one.asks;
    came_by = one.came_by;
    means = λ _. record { before = leads_just from to one.asks one.leads; ends = ap ended (leads_end from to one.asks one.leads) ∙ is };
    granted = one.granted;
  }

  refused_by : (why : ViewFailed) → Refuses came same refusal old new from why → WasRefused true (λ asks. ended (from asks)) (λ asks. came old asks new) (refusal new) why
  refused_by why one = record {
    asks = one.asks;
    last = one.last;
    came_by = one.came_by;
    means = λ _. record {
      before = leads_just from one.to one.asks one.leads;
      asks_it = ap ended (leads_end from one.to one.asks one.leads ∙ one.asks_it);
    };
    refused = one.refused;
  }

  pub failed_by : (kept : Kept) (failed : RunFailed) → Follows came same refusal old new from kept (Err (Failed failed))
      → RunsAs true (λ asks. ended (from asks)) (λ asks. came old asks new) (refusal new) (Err failed)
  failed_by kept Denied one = refused_by _ one
  failed_by kept View one = refused_by _ one
  failed_by kept Fault one = absurd one
  failed_by kept Memory one = one.granted

  pub never_faults : (kept : Kept) (failed : RunFailed) → Follows came same refusal old new from kept (Err (Failed failed)) → NeverFaults {A = Ended} (Err failed)
  never_faults kept Denied one = λ e. cc
  never_faults kept View one = λ e. cc
  never_faults kept Fault one = λ e. one
  never_faults kept Memory one = λ e. cc

  pub same_by : (kept : Kept) (result : Result (Unit {0}) Stopped) → Follows came same refusal old new from kept result → same old new
  same_by kept (Ok value) one = one.same_view
  same_by kept (Err (Status status)) one = one.same_view
  same_by kept (Err (Failed Denied)) one = one.same_view
  same_by kept (Err (Failed View)) one = one.same_view
  same_by kept (Err (Failed Fault)) one = absurd one
  same_by kept (Err (Failed Memory)) one = one.same_view
