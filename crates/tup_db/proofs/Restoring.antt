-- Why what is whole of a store isn't kept.
use Rattle.std.proofs.Common.{◌≡◌, ◌⊎◌, inl, inr, ℕ, List, Result, Ok, Err, IfErr, subst, sym}
use Rattle.tup_disk.specs.Told.{IsNamed}
use Rattle.tup_disk.specs.declared.failure.Operation.TheVariants.{Write, Cut}
use Rattle.tup_disk.specs.declared.failure.Refused.{Refused}
use Rattle.tup_db.specs.Cause.{HasNoFile, IsRefused, IsUnmeasured, IsUnrestored, IsUnsummed, place_of}
use Rattle.tup_db.specs.Own.{IsOwnBelow}
use Rattle.tup_db.specs.declared.store.Store.{Store}

-- a call on a store below this top folder is refused
pub refused_of : (root : List ℕ) (store : Store) (refused : Refused) → IsOwnBelow root store.own → IsRefused root store refused → IsUnrestored root refused
refused_of root store refused below why = inr (inl (store, below, why))

-- a write is refused, by a store that is the same project's as before
pub unwritten : (root : List ℕ) (old new : Store) (refused : Refused) → IsOwnBelow root old.own → new.own ≡ old.own
    → HasNoFile old refused ⊎ IsNamed Write (place_of new) refused → IsUnrestored root refused
unwritten root old new refused below same why = elim why [
  | inl none ↦ refused_of root old refused below (inr (inr (inl none)))
  | inr named ↦ refused_of root new refused (subst (IsOwnBelow root) (sym same) below) (inr (inr (inr (inl named))))
]

-- and so is a cut
pub uncut : (root : List ℕ) (old new : Store) (refused : Refused) → IsOwnBelow root old.own → new.own ≡ old.own
    → IsUnmeasured old refused ⊎ HasNoFile old refused ⊎ IsNamed Cut (place_of new) refused → IsUnrestored root refused
uncut root old new refused below same why = elim why [
  | inl length ↦ refused_of root old refused below (inl length)
  | inr other ↦ elim other [
    | inl none ↦ refused_of root old refused below (inr (inr (inl none)))
    | inr named ↦ refused_of root new refused (subst (IsOwnBelow root) (sym same) below) (inr (inr (inr (inr (inl named)))))
  ]
]

-- what holds of a call's refusal, told of the call that gives it on
pub written_off : (root : List ℕ) (old new : Store) (result : Result (Unit {0}) Refused) → IsOwnBelow root old.own → new.own ≡ old.own
    → IfErr result (λ refused. HasNoFile old refused ⊎ IsNamed Write (place_of new) refused) → IfErr result (IsUnrestored root)
written_off root old new (Ok done) below same why = tt
written_off root old new (Err refused) below same why = unwritten root old new refused below same why

-- all bytes of a store aren't read
pub unread : (root : List ℕ) (store : Store) (refused : Refused) → IsOwnBelow root store.own → IsUnmeasured store refused ⊎ IsUnsummed store refused → IsUnrestored root refused
unread root store refused below why = elim why [
  | inl length ↦ refused_of root store refused below (inl length)
  | inr other ↦ elim other [
    | inl memory ↦ inl memory
    | inr bytes ↦ refused_of root store refused below (inr (inl bytes))
  ]
]
