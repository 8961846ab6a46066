-- Sets that grow one after another.
use Rattle.std.specs.Prelude.{◌⊎◌}
use Rattle.std.proofs.Common.{inl, inr}
use Rattle.tup_closure.specs.Grows.{Grows}

pub grows_on : {X : Type 0} {P Q A B C : X → Type 0} → Grows P A B → Grows Q B C → Grows (λ x. P x ⊎ Q x) A C
grows_on {X} {P} {Q} {A} {B} {C} one two = record {
  only = λ x c. after x (two.only x c);
  all = λ x e. elim e [ inl p ↦ two.kept x (one.all x p) | inr q ↦ two.all x q ];
  kept = λ x a. two.kept x (one.kept x a);
}
  where
    before : (x : X) → A x ⊎ P x → A x ⊎ (P x ⊎ Q x)
    before x (inl a) = inl a
    before x (inr p) = inr (inl p)

    after : (x : X) → B x ⊎ Q x → A x ⊎ (P x ⊎ Q x)
    after x (inl b) = before x (one.only x b)
    after x (inr q) = inr (inr q)

pub grows_as : {X : Type 0} {P Q A B : X → Type 0} → ((x : X) → P x → Q x) → ((x : X) → Q x → P x) → Grows P A B → Grows Q A B
grows_as {X} {P} {Q} {A} {B} to from one = record {
  only = λ x b. said x (one.only x b);
  all = λ x q. one.all x (from x q);
  kept = one.kept;
}
  where
    said : (x : X) → A x ⊎ P x → A x ⊎ Q x
    said x (inl a) = inl a
    said x (inr p) = inr (to x p)

pub grows_nothing : {X : Type 0} {P A : X → Type 0} → ((x : X) → P x → ⊥) → Grows P A A
grows_nothing none = record {
  only = λ x a. inl a;
  all = λ x p. absurd (none x p);
  kept = λ x a. a;
}
