use Rattle.std.proofs.Common.{◌↔◌, ℕ, List, sym, subst}
use Rattle.std.specs.Prelude.{Contains}
use Rattle.std.proofs.lemmas.Result.{on_ok_weaker}
use Rattle.tup_graph.specs.Above.{HasAsked}
use Rattle.tup_closure.proofs.Growing.{grows_as}
use Rattle.tup_rule_diff.proofs.Reading.{grows_behind}
use Rattle.tup_rule_diff.proofs.running.push_readers_of.Goals as goal

pub returns-clause-readers : goal.returns-clause-readers
returns-clause-readers c =
    let readers : (number : ℕ) → Contains c.deref.result.now number ↔ HasAsked c.args.led.now number c.args.path.now =
    subst (λ (l : List ℕ). (number : ℕ) → Contains l number ↔ HasAsked c.args.led.now number c.args.path.now) (sym c.deref.ensures.value) c.in_ok-numbers.ensures.readers in
    on_ok_weaker c.push_all.result
    (λ same. grows_as (λ n h. (readers n).0 h) (λ n h. (readers n).1 h) (grows_behind c.args.found.now c.deref.result.now c.push_all.new.found same))
    c.push_all.ensures.ok
