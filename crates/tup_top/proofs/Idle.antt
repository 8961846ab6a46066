-- A call that found no memory to read its words did nothing.
use Rattle.std.proofs.Common.{◌≡◌, ℕ, Bool, true, false, List, [], Option, Some, Result, Ok, Err, inl, refl, sym, subst}
use Rattle.std.specs.Prelude.{⊤}
use Rattle.tup_site.specs.World.{World}
use Rattle.tup_site.specs.declared.fault.SiteFailed.TheVariants.{Memory as NoMemory}
use Rattle.tup_rule.specs.declared.rule.RuleName.{RuleName}
use Rattle.tup_runner.specs.Next.{Next}
use Rattle.tup_mini.specs.Means.{mini_next}
use Rattle.tup_graph.specs.declared.fault.GraphFault.{GraphFault}
use Rattle.tup_graph.specs.declared.fault.GraphFault.TheVariants as graph
use Rattle.tup_ledger.specs.declared.beginning.Begun.{Begun}
use Rattle.tup_compare.specs.declared.compare.Compared.{Compared}
use Rattle.tup_promise.specs.Needed.{FlagsWhatWasDue}
use Rattle.tup_promise.specs.declared.log.Log.{Log}
use Rattle.tup_promise.specs.declared.stop.Stop.{Stop}
use Rattle.tup_promise.specs.declared.stop.Stop.TheVariants.{Outside}
use Rattle.tup_compare.proofs.Held.{holds_itself}
use Rattle.tup_top.specs.Lines.{last_line, begun_line, compared_line}
use Rattle.tup_top.specs.Order.{Wanted}
use Rattle.tup_top.specs.Demo.{demo_world}
use Rattle.tup_top.specs.Printed.{Printed, PrintsBegun, PrintsUpdate, hears_none}
use Rattle.tup_top.specs.Promise.{Counts, FindsOut, ForUpdate, ForInit, ForTodo, ForVerify, HasPlainCause, Logs, NothingDone, OpensStore}
use Rattle.tup_top.specs.Truth.{IsTrueOver}
use Rattle.tup_top.specs.declared.order.Order.TheVariants.{Init, Upd, Todo, Verify, Demo}
use Rattle.tup_top.specs.declared.status.Status.{Status}
use Rattle.tup_top.specs.declared.status.Status.TheVariants.{Usage, Memory}
use Rattle.tup_top.proofs.Causes.{logs_nothing, nothing_logged, opens_so, prints_nothing, prints_no_update, told_nothing}
use Rattle.tup_top.proofs.True.{nothing_over}

-- nothing was done
pub idle : (wanted : Wanted) (w : World) → NothingDone wanted w w
idle (Ok (Upd program keep_going quiet verbose explain jobs log)) w = tt
idle (Ok Init) w = inl refl
idle (Ok Todo) w = refl
idle (Ok Verify) w = holds_itself w
idle (Ok Demo) w = refl
idle (Err place) w = refl

-- what an update promises where there was no memory
pub memory_for_update : (wanted : Wanted) (P : Option Stop → Type 0) → P (Some (Outside NoMemory)) → ForUpdate wanted Memory P
memory_for_update (Ok (Upd program keep_going quiet verbose explain jobs log)) P p = p
memory_for_update (Ok Init) P p = tt
memory_for_update (Ok Todo) P p = tt
memory_for_update (Ok Verify) P p = tt
memory_for_update (Ok Demo) P p = tt
memory_for_update (Err place) P p = tt

-- and what finding out what it would do promises
pub memory_for_todo : (wanted : Wanted) (P : Option Stop → Type 0) → P (Some (Outside NoMemory)) → ForTodo wanted Memory P
memory_for_todo (Ok (Upd program keep_going quiet verbose explain jobs log)) P p = tt
memory_for_todo (Ok Init) P p = tt
memory_for_todo (Ok Todo) P p = p
memory_for_todo (Ok Verify) P p = tt
memory_for_todo (Ok Demo) P p = tt
memory_for_todo (Err place) P p = tt

-- and a comparison
pub memory_for_verify : (wanted : Wanted) (P : Result Compared Stop → Type 0) → P (Err (Outside NoMemory)) → ForVerify wanted Memory P
memory_for_verify (Ok (Upd program keep_going quiet verbose explain jobs log)) P p = tt
memory_for_verify (Ok Init) P p = tt
memory_for_verify (Ok Todo) P p = tt
memory_for_verify (Ok Verify) P p = p
memory_for_verify (Ok Demo) P p = tt
memory_for_verify (Err place) P p = tt

-- and a beginning
pub memory_for_init : (wanted : Wanted) (P : Result Begun GraphFault → Type 0) → P (Err graph.Memory) → ForInit wanted Memory P
memory_for_init (Ok (Upd program keep_going quiet verbose explain jobs log)) P p = tt
memory_for_init (Ok Init) P p = p
memory_for_init (Ok Todo) P p = tt
memory_for_init (Ok Verify) P p = tt
memory_for_init (Ok Demo) P p = tt
memory_for_init (Err place) P p = tt

-- nothing failed
pub memory_causes : (wanted : Wanted) (count : Counts) → HasPlainCause wanted count count Memory
memory_causes (Ok (Upd program keep_going quiet verbose explain jobs log)) count = record { any = tt; alone = λ _. inl (refl, refl) }
memory_causes (Ok Init) count = (refl, inl refl)
memory_causes (Ok Todo) count = inl (refl, refl)
memory_causes (Ok Verify) count = inl (refl, refl)
memory_causes (Ok Demo) count = ((refl, refl), tt)
memory_causes (Err place) count = ((refl, refl), tt)

-- a beginning of which nothing is printed
begun_nothing : (count : ℕ) (held : List ℕ) → PrintsBegun count count held held Memory
begun_nothing count held = record { begun = Err graph.Memory; ends = inl refl; prints = prints_nothing Memory (begun_line Memory) count count held }

-- and what is printed of an update then
pub no_prints : (jobs : ℕ) (site keep_going explain : Bool) (says : Bool → Log → List (Option (List ℕ)) → Type 0) → ((explain : Bool) → says explain nothing_logged []) → (holds : Log → Option Stop → Type 0) → holds nothing_logged (Some (Outside NoMemory)) → (hears : Log → Status → Status → Type 0) → hears nothing_logged Memory Memory → (w : World) (ran : List RuleName) (count : ℕ) (held : List ℕ) → ran ≡ [] →
    PrintsUpdate jobs site keep_going (says explain) holds hears w w ran count count held held Memory
no_prints jobs site keep_going explain says unsaid holds so hears unheard w ran count held none =
    subst (λ (l : List RuleName). PrintsUpdate jobs site keep_going (says explain) holds hears w w l count count held held Memory) (sym none)
    (prints_no_update jobs site keep_going (says explain) (unsaid explain) holds so hears unheard w count count held)

-- and of every call
pub memory_prints : (jobs : ℕ) (site runner : Bool) (kept : Type 0) (says : Bool → Log → List (Option (List ℕ)) → Type 0) → ((explain : Bool) → says explain nothing_logged []) → (holds : Log → Option Stop → Type 0) → holds nothing_logged (Some (Outside NoMemory)) → (hears : Log → Status → Status → Type 0) → hears nothing_logged Memory Memory → (wanted : Wanted) (next : Next) (w : World) (ran : List RuleName) (count : ℕ) (held : List ℕ) → ran ≡ [] → Printed jobs site runner kept says holds hears wanted next w w ran count count held held Memory
memory_prints jobs site runner kept says unsaid holds so hears unheard (Ok (Upd program keep_going quiet verbose explain number log)) next w ran count held none =
    no_prints jobs site keep_going explain says unsaid holds so hears unheard w ran count held none
memory_prints jobs site runner kept says unsaid holds so hears unheard (Ok Init) next w ran count held none = begun_nothing count held
memory_prints jobs site runner kept says unsaid holds so hears unheard (Ok Todo) next w ran count held none = record {
  todo = Err (Outside NoMemory);
  lists = λ _. tt;
  status = Memory;
  heard = unheard;
  ends = inl refl;
  prints = prints_nothing Memory (last_line Memory) count count held;
}
memory_prints jobs site runner kept says unsaid holds so hears unheard (Ok Verify) next w ran count held none = record {
  compared = Err (Outside NoMemory);
  has = λ _ _. tt;
  ends = inl refl;
  prints = prints_nothing Memory (compared_line Memory) count count held;
}
memory_prints jobs site runner kept says unsaid holds so hears unheard (Ok Demo) next w ran count held none =
    ([], demo_world, λ other. absurd (other refl), prints_no_update 1 true false (λ log chains. chains ≡ []) refl (IsTrueOver mini_next demo_world demo_world) (nothing_over mini_next demo_world demo_world) hears_none (inl refl) demo_world count count held)
memory_prints jobs site runner kept says unsaid holds so hears unheard (Err place) next w ran count held none = prints_nothing (Usage place) (last_line (Usage place)) count count held

-- what its log says
pub no_logs : (jobs : ℕ) (keep_going : Bool) (ran : List RuleName) → ran ≡ [] → Logs jobs keep_going ran (Some (Outside NoMemory))
no_logs jobs keep_going ran none = subst (λ (l : List RuleName). Logs jobs keep_going l (Some (Outside NoMemory))) (sym none) (logs_nothing jobs keep_going)

pub memory_logs : (wanted : Wanted) (jobs : ℕ) (keep_going : Bool) (ran : List RuleName) → ran ≡ [] → ForUpdate wanted Memory (Logs jobs keep_going ran)
memory_logs wanted jobs keep_going ran none = memory_for_update wanted (Logs jobs keep_going ran) (no_logs jobs keep_going ran none)

-- how the store was gone on from
pub no_opening : (w : World) (ran : List RuleName) → ran ≡ [] → OpensStore w w ran (Some (Outside NoMemory))
no_opening w ran none =
    let told = told_nothing 1 true false (λ log chains. chains ≡ []) refl (λ log stopped. ⊤) tt w in
    opens_so w w ran told.log (sym none) (Some (Outside NoMemory)) (told.unopened refl)

pub memory_opens : (wanted : Wanted) (w : World) (ran : List RuleName) → ran ≡ [] → ForUpdate wanted Memory (OpensStore w w ran)
memory_opens wanted w ran none = memory_for_update wanted (OpensStore w w ran) (no_opening w ran none)

-- and that no more is to be run than was due
pub memory_found_out : (wanted : Wanted) (kept : Type 0) (w : World) → (kept → FlagsWhatWasDue w w) → ForTodo wanted Memory (FindsOut kept w w)
memory_found_out wanted kept w flagged =
    let told = told_nothing 1 true false (λ log chains. chains ≡ []) refl (λ log stopped. ⊤) tt w in
    memory_for_todo wanted (FindsOut kept w w)
    (record {
      opens = opens_so w w [] told.log refl (Some (Outside NoMemory)) (told.unopened refl);
      stops = tt;
      blamed = λ _. tt;
      full = λ _. tt;
      flagged = flagged;
    })
