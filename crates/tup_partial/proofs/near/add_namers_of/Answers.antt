use Rattle.std.proofs.Common.{ℕ, List, sym, subst}
use Rattle.std.specs.Prelude.{◌↔◌, Contains}
use Rattle.tup_path.specs.Name.{Names}
use Rattle.tup_readers.specs.Index.{HasNamed}
use Rattle.tup_closure.proofs.Growing.{grows_as, grows_nothing}
use Rattle.tup_partial.proofs.Naming.{grows_more, one_of_none}
use Rattle.tup_partial.proofs.near.add_namers_of.Goals as goal

pub loop-path-init : goal.loop-path-init
loop-path-init c = grows_nothing (one_of_none (λ (path : Names) (n : ℕ). HasNamed c.args.graph.now n path))

pub loop-path-preserved : goal.loop-path-preserved
loop-path-preserved c =
    let g = c.args.graph.now in
    let path = c.path-item.result in
    let namers : (n : ℕ) → Contains c.deref.result.now n ↔ HasNamed g n path =
    subst (λ (l : List ℕ). (n : ℕ) → Contains l n ↔ HasNamed g n path) (sym c.deref.ensures.value) c.in_ok-numbers.ensures.namers in
    grows_more (λ (q : Names) (n : ℕ). HasNamed g n q) c.args.paths.now c.loop-path.path-index path path c.loop-path-test.true c.path-item.is
    c.loop-path.invariant (grows_as (λ n. (namers n).0) (λ n. (namers n).1) c.in_ok-add_numbers.ensures.found)
