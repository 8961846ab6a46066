use Rattle.std.proofs.Common.{List, ℕ, ◌∷◌, [], sym, subst, map}
use Rattle.std.specs.Prelude.{Contains}
use Rattle.std.specs.Map.Iter.{deref}
use Rattle.std.proofs.lemmas.List.{map-append}
use Rattle.std.proofs.lemmas.Map.Iter.{iter_end}
use Rattle.tup_scan_diff.specs.Touched.{FindsRoots}
use Rattle.tup_scan_diff.proofs.Looking.{no_numbers, number_looked}
use Rattle.tup_scan_diff.proofs.present.Present.push_set.Goals as goal

pub loop-number-init : goal.loop-number-init
loop-number-init c = no_numbers c.args.self.now

pub loop-number-preserved : goal.loop-number-preserved
loop-number-preserved c =
    subst (λ (l : List ℕ). FindsRoots c.args.self.now (Contains l) c.args.roots.now c.push_root.new.roots) (sym (map-append deref c.loop-number.yielded (c.in-Some.number ∷ [])))
    (number_looked c.args.self.now (map deref c.loop-number.yielded) c.in-Some.number.now c.loop-number.invariant c.in_ok-push_root.ensures.roots)

pub returns-clause-roots : goal.returns-clause-roots
returns-clause-roots c =
    let all = iter_end deref c.args.set.now.keys c.loop-number.yielded c.into_iter-number-iterator.result c.loop-number.number-iterator c.next.new.self c.next.result
    c.into_iter-number-iterator.ensures.into_iter_gives.0 c.loop-number.yielded_by c.in-None.is c.next.ensures.steps in
    subst (λ (l : List ℕ). FindsRoots c.args.self.now (Contains l) c.args.roots.now c.loop-number.roots) all.0 c.loop-number.invariant
