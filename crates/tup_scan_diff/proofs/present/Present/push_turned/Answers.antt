use Rattle.std.proofs.Common.{List, ◌∷◌, [], sym, subst, map}
use Rattle.std.specs.Map.Iter.{deref}
use Rattle.std.proofs.lemmas.List.{map-append}
use Rattle.std.proofs.lemmas.Map.Iter.{iter_end}
use Rattle.tup_path.specs.Name.{Names}
use Rattle.tup_scan_diff.specs.Touched.{AsksOneOf, FindsRoots}
use Rattle.tup_scan_diff.proofs.Looking.{no_paths, path_looked}
use Rattle.tup_scan_diff.proofs.present.Present.push_turned.Goals as goal

pub loop-path-init : goal.loop-path-init
loop-path-init c = no_paths c.args.self.now c.args.graph.now

pub loop-path-preserved : goal.loop-path-preserved
loop-path-preserved c =
    subst (λ (l : List Names). FindsRoots c.args.self.now (AsksOneOf c.args.graph.now l) c.args.roots.now c.push_readers.new.roots) (sym (map-append deref c.loop-path.yielded (c.in-Some.path ∷ [])))
    (path_looked c.args.self.now c.args.graph.now (map deref c.loop-path.yielded) c.in-Some.path.now c.loop-path.invariant c.in_ok-push_readers.ensures.roots)

pub returns-clause-roots : goal.returns-clause-roots
returns-clause-roots c =
    let all = iter_end deref c.args.self.now.turned.keys c.loop-path.yielded c.into_iter-path-iterator.result c.loop-path.path-iterator c.next.new.self c.next.result
    c.into_iter-path-iterator.ensures.into_iter_gives.0 c.loop-path.yielded_by c.in-None.is c.next.ensures.steps in
    subst (λ (l : List Names). FindsRoots c.args.self.now (AsksOneOf c.args.graph.now l) c.args.roots.now c.loop-path.roots) all.0 c.loop-path.invariant
