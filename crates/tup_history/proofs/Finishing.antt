-- A run ends well that would if no reporter failed, where there are none and want of memory is well, too.
use Rattle.std.proofs.Common.{◌≡◌, inl, inr, ℕ, Bool, true, false, IsTrue, List, [], length, refl, sym, subst, ◌∙◌}
use Rattle.std.specs.Prelude.{◌==◌}
use Rattle.tup_tell.specs.Parted.{AreTold}
use Rattle.tup_tell.specs.declared.event.Event.{Event}
use Rattle.tup_promise.specs.declared.log.Log.{Log}
use Rattle.tup_top.specs.Printed.{Ends, IsDone}
use Rattle.tup_top.specs.Status.{after_telling}
use Rattle.tup_top.specs.Telling.{Hears, events_of}
use Rattle.tup_top.specs.declared.status.Status.{Status}
use Rattle.tup_top.specs.declared.status.Status.TheVariants.{Memory}

-- where memory was wanting while reporters were told, nothing else is answered
for_memory : (Well : Status → Type 0) → Well Memory → (before now : ℕ) (status answer : Status) → status ≡ Memory → Ends before now status answer → Well answer
for_memory Well wanting before now status answer memory (inl is) = subst Well (sym (is ∙ memory)) wanting
for_memory Well wanting before now status answer memory (inr (inl is)) = subst Well (sym is) wanting
for_memory Well wanting before now status answer memory (inr (inr (is, done, rose))) = absurd (let no : IsDone Memory = subst IsDone memory done in no)

module _ {T : Type 0} (told : T → List Event) (faults : T → ℕ) (tellers kept failed : List T) (nobody : tellers ≡ []) where
  -- where all reporters were told, none failed
  pub ends_well : (Well : Status → Type 0) → Well Memory → (log : Log) (came status answer : Status) (before now : ℕ) → Hears told faults tellers kept failed log came status → Ends before now status answer → (failed ≡ [] → Well answer) → Well answer
  ends_well Well wanting log came status answer before now hears ends well = by hears.all hears.told_all hears.status_is
    where
      by : (all : Bool) → (IsTrue all → AreTold told faults (events_of log) tellers kept failed) → status ≡ after_telling all (length failed == 0) came → Well answer
      by true tells is =
          let parts : AreTold told faults (events_of log) [] kept failed = subst (λ (l : List T). AreTold told faults (events_of log) l kept failed) nobody (tells refl) in
          well parts.1
      by false tells is = for_memory Well wanting before now status answer is ends
