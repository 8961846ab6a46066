-- How a comparison ends that came out so: what is promised of it holds of the status that tells of it.
use Rattle.std.proofs.Common.{◌≡◌, inl, inr, ℕ, Bool, IsTrue, List, [], Option, None, Some, Result, Ok, Err, refl, sym, subst, ◌∙◌}
use Rattle.std.specs.Result.{result_err}
use Rattle.tup_path.specs.Name.{Names}
use Rattle.tup_site.specs.World.{World}
use Rattle.tup_site.specs.declared.fault.SiteFailed.TheVariants.{Memory as NoMemory}
use Rattle.tup_runner.specs.Next.{Next}
use Rattle.tup_compare.specs.Compared.{HasCompared, RunsToCompare}
use Rattle.tup_promise.specs.Cause.{HasRunCause, HasCountedCause as StopHasCountedCause}
use Rattle.tup_compare.specs.declared.compare.Compared.{Compared}
use Rattle.tup_compare.specs.declared.compare.Compared.TheVariants as compared
use Rattle.tup_promise.specs.declared.stop.Stop.{Stop}
use Rattle.tup_promise.specs.declared.stop.Stop.TheVariants.{NoStore, BadStore as StoreDamaged, Sources, UserFile as IsUsers, Bad, Run, Full, Outside}
use Rattle.tup_promise.specs.declared.log.Log.{Log}
use Rattle.tup_compare.proofs.Comparing.{all_is_front}
use Rattle.tup_top.specs.Lines.{compared_line}
use Rattle.tup_top.specs.Printed.{IsDone, Ends, Prints, PrintsComparison}
use Rattle.tup_top.specs.Promise.{Counts, OneFailedAtMost, HasCountedCause, HasComparedCause}
use Rattle.tup_top.specs.Status.{status_of_stop, status_of_compared, IfCame, IfCompared, of_stop}
use Rattle.tup_top.specs.declared.status.Status.{Status}
use Rattle.tup_top.specs.declared.status.Status.TheVariants.{Done, Command, IllegalRead, IllegalWrite, Unwritten, TooManyReads, Usage, NotInit, AlreadyInit, BadStore, Parse, CircularDirs, CircularCommands, NoSuchGroup, UserFile, SiteFault, RunFault, SinkFault, TellFault, Limit, Memory, Differs}
use Rattle.tup_top.proofs.Causes.{came, came_on, done_is_none, failed_once, of_one, shared_cause, steady, counted_of_stop}

-- the log of nothing
no_log : Log
no_log = record { read = []; removed = []; ran = []; ended = []; steps = [] }

-- what came of an update that is answered so came of a comparison
same_came : (P : Result Compared Stop → Type 0) (status : Status) → IfCame status (λ stopped. P (of_stop stopped)) → IfCompared status P
same_came P (Done read ran removed) p = p
same_came P (Command rule status) p = p
same_came P (IllegalRead rule text) p = p
same_came P (IllegalWrite rule text) p = p
same_came P (Unwritten rule path) p = p
same_came P (TooManyReads rule) p = p
same_came P (Usage place) p = p
same_came P NotInit p = p
same_came P AlreadyInit p = p
same_came P (BadStore offset) p = p
same_came P (Parse fault) p = p
same_came P (CircularDirs cycle) p = p
same_came P (CircularCommands cycle) p = p
same_came P (NoSuchGroup group) p = p
same_came P (UserFile path) p = p
same_came P SiteFault p = p
same_came P RunFault p = p
same_came P SinkFault p = p
same_came P TellFault p = p
same_came P (Limit what number) p = p
same_came P Memory p = p
same_came P (Differs path) p = absurd p

-- a promise of what a comparison came to grows to a larger one
pub compared_on : (P Q : Result Compared Stop → Type 0) → ((result : Result Compared Stop) → P result → Q result) → (status : Status) → IfCompared status P → IfCompared status Q
compared_on P Q on (Differs path) p = on (Ok (compared.Differs path)) p
compared_on P Q on (Done read ran removed) p = on (Ok compared.Same) p
compared_on P Q on (Command rule status) p = came_on (λ stopped. P (of_stop stopped)) (λ stopped. Q (of_stop stopped)) (λ stopped. on (of_stop stopped)) (Command rule status) p
compared_on P Q on (IllegalRead rule text) p = came_on (λ stopped. P (of_stop stopped)) (λ stopped. Q (of_stop stopped)) (λ stopped. on (of_stop stopped)) (IllegalRead rule text) p
compared_on P Q on (IllegalWrite rule text) p = came_on (λ stopped. P (of_stop stopped)) (λ stopped. Q (of_stop stopped)) (λ stopped. on (of_stop stopped)) (IllegalWrite rule text) p
compared_on P Q on (Unwritten rule path) p = came_on (λ stopped. P (of_stop stopped)) (λ stopped. Q (of_stop stopped)) (λ stopped. on (of_stop stopped)) (Unwritten rule path) p
compared_on P Q on (TooManyReads rule) p = came_on (λ stopped. P (of_stop stopped)) (λ stopped. Q (of_stop stopped)) (λ stopped. on (of_stop stopped)) (TooManyReads rule) p
compared_on P Q on (Usage place) p = came_on (λ stopped. P (of_stop stopped)) (λ stopped. Q (of_stop stopped)) (λ stopped. on (of_stop stopped)) (Usage place) p
compared_on P Q on NotInit p = came_on (λ stopped. P (of_stop stopped)) (λ stopped. Q (of_stop stopped)) (λ stopped. on (of_stop stopped)) NotInit p
compared_on P Q on AlreadyInit p = came_on (λ stopped. P (of_stop stopped)) (λ stopped. Q (of_stop stopped)) (λ stopped. on (of_stop stopped)) AlreadyInit p
compared_on P Q on (BadStore offset) p = came_on (λ stopped. P (of_stop stopped)) (λ stopped. Q (of_stop stopped)) (λ stopped. on (of_stop stopped)) (BadStore offset) p
compared_on P Q on (Parse fault) p = came_on (λ stopped. P (of_stop stopped)) (λ stopped. Q (of_stop stopped)) (λ stopped. on (of_stop stopped)) (Parse fault) p
compared_on P Q on (CircularDirs cycle) p = came_on (λ stopped. P (of_stop stopped)) (λ stopped. Q (of_stop stopped)) (λ stopped. on (of_stop stopped)) (CircularDirs cycle) p
compared_on P Q on (CircularCommands cycle) p = came_on (λ stopped. P (of_stop stopped)) (λ stopped. Q (of_stop stopped)) (λ stopped. on (of_stop stopped)) (CircularCommands cycle) p
compared_on P Q on (NoSuchGroup group) p = came_on (λ stopped. P (of_stop stopped)) (λ stopped. Q (of_stop stopped)) (λ stopped. on (of_stop stopped)) (NoSuchGroup group) p
compared_on P Q on (UserFile path) p = came_on (λ stopped. P (of_stop stopped)) (λ stopped. Q (of_stop stopped)) (λ stopped. on (of_stop stopped)) (UserFile path) p
compared_on P Q on SiteFault p = came_on (λ stopped. P (of_stop stopped)) (λ stopped. Q (of_stop stopped)) (λ stopped. on (of_stop stopped)) SiteFault p
compared_on P Q on RunFault p = came_on (λ stopped. P (of_stop stopped)) (λ stopped. Q (of_stop stopped)) (λ stopped. on (of_stop stopped)) RunFault p
compared_on P Q on SinkFault p = came_on (λ stopped. P (of_stop stopped)) (λ stopped. Q (of_stop stopped)) (λ stopped. on (of_stop stopped)) SinkFault p
compared_on P Q on TellFault p = came_on (λ stopped. P (of_stop stopped)) (λ stopped. Q (of_stop stopped)) (λ stopped. on (of_stop stopped)) TellFault p
compared_on P Q on (Limit what number) p = came_on (λ stopped. P (of_stop stopped)) (λ stopped. Q (of_stop stopped)) (λ stopped. on (of_stop stopped)) (Limit what number) p
compared_on P Q on Memory p = came_on (λ stopped. P (of_stop stopped)) (λ stopped. Q (of_stop stopped)) (λ stopped. on (of_stop stopped)) Memory p

-- the status of a comparison tells what it came to
told_compared : (P : Result Compared Stop → Type 0) (before now : ℕ) (result : Result Compared Stop) → StopHasCountedCause before now (result_err result) → P result → IfCompared (status_of_compared result) P
told_compared P before now (Ok compared.Same) cause p = p
told_compared P before now (Ok (compared.Differs path)) cause p = p
told_compared P before now (Err stop) cause p = same_came P (status_of_stop stop) (came (λ stopped. P (of_stop stopped)) before now no_log (Some stop) (shared_cause before now (Some stop) cause) p)

done_is_same : (result : Result Compared Stop) → IsDone (status_of_compared result) → result ≡ Ok compared.Same
done_is_same (Ok compared.Same) done = refl
done_is_same (Ok (compared.Differs path)) done = absurd done
done_is_same (Err stop) done = absurd (cc (done_is_none no_log (Some stop) done))

-- a promise of what a comparison came to is one of what is answered for it, where want of memory keeps it too
pub compared_answered : (P : Result Compared Stop → Type 0) (before now old new : ℕ) (result : Result Compared Stop) (status answer : Status) → status ≡ status_of_compared result → Ends before now status answer →
    StopHasCountedCause old new (result_err result) → P result → P (Err (Outside NoMemory)) → IfCompared answer P
compared_answered P before now old new result status answer is (inl e) cause p memory =
    subst (λ (s : Status). IfCompared s P) (sym (e ∙ is)) (told_compared P old new result cause p)
compared_answered P before now old new result status answer is (inr (inl e)) cause p memory =
    subst (λ (s : Status). IfCompared s P) (sym e) memory
compared_answered P before now old new result status answer is (inr (inr (e, done, rose))) cause p memory =
    subst (λ (s : Status). IfCompared s P) (sym e) (subst P (done_is_same result (subst IsDone is done)) p)

-- ---- what was run

-- whatever it came to, a front of the commands of the clean build was run, or nothing
pub untold_compared : (next : Next) (w : World) (old new : List (Names × List ℕ)) (stopped : Option Stop) → RunsToCompare next w old new stopped → RunsToCompare next w old new (Some (Outside NoMemory))
untold_compared next w old new None runs = inr (record { held = runs.held; shows = runs.shows; rules = runs.rules; asked = runs.asked; ran = all_is_front _ old new runs.ran })
untold_compared next w old new (Some NoStore) same = inl same
untold_compared next w old new (Some (StoreDamaged offset)) same = inl same
untold_compared next w old new (Some (Sources fault)) same = inl same
untold_compared next w old new (Some (IsUsers path written found)) runs = absurd runs
untold_compared next w old new (Some (Bad name verdict)) runs = inr (record { held = runs.held; shows = runs.shows; rules = runs.rules; asked = runs.asked; ran = all_is_front _ old new runs.ran })
untold_compared next w old new (Some Run) runs = inr (record { held = runs.held; shows = runs.shows; rules = runs.rules; asked = runs.asked; ran = runs.ran })
untold_compared next w old new (Some Full) runs = absurd runs
untold_compared next w old new (Some (Outside failed)) (inl same) = inl same
untold_compared next w old new (Some (Outside failed)) (inr runs) = inr (record { held = runs.held; shows = runs.shows; rules = runs.rules; asked = runs.asked; ran = runs.ran })

-- ---- counts

-- the causes of an update are those of a comparison
cause_of_compared : (before now : Counts) (status : Status) → HasCountedCause before now status → HasComparedCause before now status
cause_of_compared before now (Done read ran removed) cause = cause
cause_of_compared before now (Command rule status) cause = cause
cause_of_compared before now (IllegalRead rule text) cause = cause
cause_of_compared before now (IllegalWrite rule text) cause = cause
cause_of_compared before now (Unwritten rule path) cause = cause
cause_of_compared before now (TooManyReads rule) cause = cause
cause_of_compared before now (Usage place) cause = cause
cause_of_compared before now NotInit cause = cause
cause_of_compared before now AlreadyInit cause = cause
cause_of_compared before now (BadStore offset) cause = cause
cause_of_compared before now (Parse fault) cause = cause
cause_of_compared before now (CircularDirs cycle) cause = cause
cause_of_compared before now (CircularCommands cycle) cause = cause
cause_of_compared before now (NoSuchGroup group) cause = cause
cause_of_compared before now (UserFile path) cause = cause
cause_of_compared before now SiteFault cause = cause
cause_of_compared before now RunFault cause = cause
cause_of_compared before now SinkFault cause = cause
cause_of_compared before now TellFault cause = cause
cause_of_compared before now (Limit what number) cause = cause
cause_of_compared before now Memory cause = cause
cause_of_compared before now (Differs path) cause = absurd cause

module _ (site_before site_now run_before run_now sink_before sink_now : ℕ) where
  abbrev counts_before : Counts
  counts_before = of_one site_before run_before sink_before

  abbrev counts_now : Counts
  counts_now = of_one site_now run_now sink_now

  counted : (result : Result Compared Stop) → (IsDone (status_of_compared result) → sink_now ≡ sink_before) → StopHasCountedCause site_before site_now (result_err result) → HasRunCause run_before run_now (result_err result) →
      HasComparedCause counts_before counts_now (status_of_compared result)
  counted (Ok compared.Same) sink cause run = (steady site_before site_now run_before run_now sink_before sink_now cause run, sink tt)
  counted (Ok (compared.Differs path)) sink cause run = steady site_before site_now run_before run_now sink_before sink_now cause run
  counted (Err stop) sink cause run =
      cause_of_compared counts_before counts_now (status_of_stop stop) (counted_of_stop site_before site_now run_before run_now sink_before sink_now no_log (Some stop) sink cause run)

  pub failed : (result : Result Compared Stop) → StopHasCountedCause site_before site_now (result_err result) → HasRunCause run_before run_now (result_err result) → OneFailedAtMost counts_before counts_now
  failed (Ok compared) cause run = inl (steady site_before site_now run_before run_now sink_before sink_now cause run)
  failed (Err stop) cause run = failed_once site_before site_now run_before run_now sink_before sink_now (Some stop) cause run

  pub compared_counts : (result : Result Compared Stop) (status answer : Status) → status ≡ status_of_compared result → Ends sink_before sink_now status answer → (IsDone answer → sink_now ≡ sink_before) →
      StopHasCountedCause site_before site_now (result_err result) → HasRunCause run_before run_now (result_err result) → HasComparedCause counts_before counts_now answer
  compared_counts result status answer is (inl e) sink cause run =
      subst (HasComparedCause counts_before counts_now) (sym (e ∙ is)) (counted result (λ done. sink (subst IsDone (sym (e ∙ is)) done)) cause run)
  compared_counts result status answer is (inr (inl e)) sink cause run = subst (HasComparedCause counts_before counts_now) (sym e) (failed result cause run)
  compared_counts result status answer is (inr (inr (e, done, rose))) sink cause run =
      let same = done_is_same result (subst IsDone is done) in
      subst (HasComparedCause counts_before counts_now) (sym e) (
        steady site_before site_now run_before run_now sink_before sink_now
            (subst (λ (r : Result Compared Stop). StopHasCountedCause site_before site_now (result_err r)) same cause)
            (subst (λ (r : Result Compared Stop). HasRunCause run_before run_now (result_err r)) same run),
        rose,
      )

-- ---- what is printed

pub prints_compared : (site runner : Bool) (next : Next) (w : World) (before now : ℕ) (held grown : List ℕ) (result : Result Compared Stop) (status : Status) (text : List ℕ) (answer : Status) →
    (IsTrue site → IsTrue runner → HasCompared next w result) → status ≡ status_of_compared result →
    text ≡ compared_line status → Ends before now status answer → Prints status text before now held grown answer → PrintsComparison site runner next w before now held grown answer
prints_compared site runner next w before now held grown result status text answer has is reads ends prints = record {
  compared = result;
  has = has;
  ends = subst (λ (s : Status). Ends before now s answer) is ends;
  prints = subst (λ (s : Status). Prints s (compared_line s) before now held grown answer) is (subst (λ (t : List ℕ). Prints status t before now held grown answer) reads prints);
}
