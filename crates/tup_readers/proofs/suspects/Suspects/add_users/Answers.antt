use Rattle.std.proofs.Common.{List, ℕ, inl, inr, sym, subst}
use Rattle.std.specs.Prelude.{Contains}
use Rattle.std.proofs.lemmas.Result.{on_ok_weaker}
use Rattle.tup_readers.specs.Index.{IsUserIn}
use Rattle.tup_readers.proofs.Using.{user_printed}
use Rattle.tup_readers.proofs.suspects.Suspects.add_users.Goals as goal

pub returns : goal.returns
returns c = λ g prints.
    let path = c.args.path.now in
    let found : (n : ℕ) → IsUserIn g path n → Contains c.deref.result.now n = λ n user.
    subst (λ (l : List ℕ). Contains l n) (sym c.deref.ensures.value) (c.in_ok-near.ensures.users n (user_printed g c.args.prints.now prints path n user)) in
    on_ok_weaker c.add_all.result (λ added n one. elim one [ inl old ↦ (added n).1 (inl old) | inr user ↦ (added n).1 (inr (found n user)) ]) c.add_all.ensures
