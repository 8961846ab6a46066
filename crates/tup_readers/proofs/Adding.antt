-- What is added to a whole.
use Rattle.std.specs.Prelude.{◌⊎◌, ◌↔◌}
use Rattle.std.proofs.Common.{inl, inr}
use Rattle.tup_readers.specs.Changes.{Adds}

-- twice
module _ {Y : Type 0} {First Second Both Old Mid New : Y → Type 0} (both : (y : Y) → Both y ↔ (First y ⊎ Second y)) where
  pub added_twice : Adds First Old Mid → Adds Second Mid New → Adds Both Old New
  added_twice one two y = (
    λ now. elim ((two y).0 now) [
      | inl mid ↦ elim ((one y).0 mid) [ inl was ↦ inl was | inr added ↦ inr ((both y).1 (inl added)) ]
      | inr added ↦ inr ((both y).1 (inr added))
    ],
    λ e. elim e [
      | inl was ↦ (two y).1 (inl ((one y).1 (inl was)))
      | inr added ↦ elim ((both y).0 added) [ inl first ↦ (two y).1 (inl ((one y).1 (inr first))) | inr second ↦ (two y).1 (inr second) ]
    ],
  )

-- the same, said otherwise
pub added_so : {Y : Type 0} {First Second Old New : Y → Type 0} → ((y : Y) → First y ↔ Second y) → Adds First Old New → Adds Second Old New
added_so same adds y = (
  λ now. elim ((adds y).0 now) [ inl was ↦ inl was | inr added ↦ inr ((same y).0 added) ],
  λ e. elim e [ inl was ↦ (adds y).1 (inl was) | inr added ↦ (adds y).1 (inr ((same y).1 added)) ],
)
