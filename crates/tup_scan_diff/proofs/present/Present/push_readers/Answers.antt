use Rattle.std.proofs.Common.{◌↔◌, ℕ, List, sym, subst}
use Rattle.std.specs.Prelude.{Contains}
use Rattle.std.proofs.lemmas.Result.{on_ok_weaker}
use Rattle.tup_graph.specs.Above.{HasAsked}
use Rattle.tup_scan_diff.proofs.Looking.{looked_as}
use Rattle.tup_scan_diff.proofs.present.Present.push_readers.Goals as goal

pub returns-clause-roots : goal.returns-clause-roots
returns-clause-roots c =
    let graph = c.args.graph.now in
    let path = c.args.path.now in
    on_ok_weaker c.push_all.result
    (looked_as c.args.self.now (subst (λ (l : List ℕ). (number : ℕ) → Contains l number ↔ HasAsked graph number path) (sym c.deref.ensures.value) c.in_ok-readers.ensures.readers))
    c.push_all.ensures.roots
