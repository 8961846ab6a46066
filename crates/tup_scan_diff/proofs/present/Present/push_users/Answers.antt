use Rattle.std.proofs.Common.{◌↔◌, ℕ, List, sym, subst}
use Rattle.std.specs.Prelude.{Contains}
use Rattle.std.proofs.lemmas.Result.{on_ok_weaker}
use Rattle.tup_graph.specs.Above.{HasAsked}
use Rattle.tup_readers.specs.Index.{HasWritten}
use Rattle.tup_scan_diff.proofs.Looking.{users_looked}
use Rattle.tup_scan_diff.proofs.present.Present.push_users.Goals as goal

pub returns-clause-roots : goal.returns-clause-roots
returns-clause-roots c =
    let graph = c.args.graph.now in
    let path = c.args.path.now in
    on_ok_weaker c.push_all-2.result
    (users_looked c.args.self.now graph path
    (subst (λ (l : List ℕ). (number : ℕ) → Contains l number ↔ HasAsked graph number path) (sym c.deref.ensures.value) c.in_ok-readers.ensures.readers)
    (subst (λ (l : List ℕ). (number : ℕ) → Contains l number ↔ HasWritten graph number path) (sym c.deref-2.ensures.value) c.in_ok-writers.ensures.writers)
    c.in_ok-push_all.ensures.roots) c.push_all-2.ensures.roots
