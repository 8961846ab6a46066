-- What a seat finds that gets in.
use Rattle.std.proofs.Common.{◌≡◌, ℕ, [], ◌∷◌, refl, subst}
use Rattle.std.specs.Prelude.{All}
use Rattle.std.specs.Fn.{Once}
use Rattle.std.proofs.lemmas.List.Elements.{All-head}
use denote.Ref.{MutBor}
use Rattle.tup_lock.specs.declared.view.View.{View}
use Rattle.tup_lock.specs.declared.logged.Logged.{Ghosts as Log}
use Rattle.tup_lock.specs.Held.{IsFound, Shows}
use Rattle.tup_lock.specs.Within.{Ran}

module _ {T E : Type 0} (log : Log T E) (v : View T) (number : ℕ) (last t : T) (seated : v.lasts ≡ (number, last) ∷ []) where
  pub finds : Shows log v t → IsFound log number last t
  finds shows = All-head (λ (l : ℕ × T). IsFound log l.0 l.1 t) (number, last) [] (subst (All (λ (l : ℕ × T). IsFound log l.0 l.1 t)) seated shows.lasts)

-- a call that was made
pub ran_at : {F T X : Type 0} (g : Once F (MutBor T × (ℕ × Unit {0})) (X × (MutBor T × Unit {0}))) (f : F) (number : ℕ) (shown after : MutBor T) (x : X) → g.post f (shown, (number, tt)) (x, (after, tt)) → Ran g f shown.now number x after.now
ran_at g f number shown after x met = record { shown = shown; shows = refl; after = after; met = met; leaves = refl }
