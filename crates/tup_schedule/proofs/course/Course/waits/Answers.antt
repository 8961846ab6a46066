use Rattle.std.proofs.Common.{◌≡◌, ℕ, None, refl, sym, ap, ◌∙◌, inl, inr}
use Rattle.std.specs.Prelude.{is_some}
use Rattle.std.proofs.lemmas.Bool.{true≢false}
use Rattle.tup_core.specs.Step.{State}
use Rattle.tup_schedule.proofs.Views.{now_is, from_now, to_now}
use Rattle.tup_core.proofs.ReadingLaws.{none_is}
use Rattle.tup_schedule.proofs.course.Course.waits.Goals as goal

pub returns-then-is_some : goal.returns-then-is_some
returns-then-is_some c = λ seat. (inl (ap is_some (ap (λ (s : State). s.stopped) (sym (now_is _ _ _ _ _ _ c.self.invariant c.self.view_is)) ∙ sym c.stopped.ensures) ∙ sym c.is_some.ensures ∙ c.if-is_some.true), refl)

pub returns-then-is_idle : goal.returns-then-is_idle
returns-then-is_idle c = λ seat. (inr (c.requires, to_now _ _ _ _ _ _ c.self.invariant c.self.view_is (λ s. (n : ℕ) → s.seats n ≡ None) (c.is_idle.ensures.0 c.if-is_idle.true)), refl)

pub returns : goal.returns
returns c = λ seat. (
  none_is _ (ap is_some (ap (λ (s : State). s.stopped) (sym (now_is _ _ _ _ _ _ c.self.invariant c.self.view_is)) ∙ sym c.stopped.ensures) ∙ sym c.is_some.ensures ∙ c.if-is_some.false),
  c.requires,
  (λ none. true≢false (sym (c.is_idle.ensures.1 (from_now _ _ _ _ _ _ c.self.invariant c.self.view_is (λ s. (n : ℕ) → s.seats n ≡ None) none)) ∙ c.if-is_idle.false)),
  refl,
)
