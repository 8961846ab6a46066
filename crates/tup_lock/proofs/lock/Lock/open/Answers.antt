use Rattle.std.proofs.Common.{rules, ◌≡◌, [], ◌∷◌, List, Option, Some, sym, subst}
use Rattle.atomic_table.specs.Table.{opening}
use Rattle.tup_lock.specs.Held.{Held, first_view}
use Rattle.tup_lock.proofs.Steps.{begins_so}
use Rattle.tup_lock.proofs.lock.Lock.open.Goals as goal

pub new-requires : goal.new-requires
new-requires g c =
    let one : c.push_reserved.new.self.items ≡ Some c.args.value ∷ [] = search rules in
    let about : c.of-about.result.value ≡ c.args.value = search rules in
    subst (λ (x : g.row.T.Denot × List (Option g.row.T.Denot)). Held g.T.Logged x.0 (opening (0 ∷ []) x.1 (first_view x.0)))
    (λ i. (sym about i, sym one i)) (begins_so g.T.Logged c.args.value c.requires.none)
