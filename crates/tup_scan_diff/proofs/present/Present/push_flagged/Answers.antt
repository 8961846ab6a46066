use Rattle.std.proofs.Common.{◌∙◌, List, ℕ, ◌∷◌, [], sym, subst, map}
use Rattle.std.specs.FinMap as finite
use Rattle.std.specs.Map.Iter.{deref_pair}
use Rattle.std.proofs.lemmas.List.{map-append}
use Rattle.std.proofs.lemmas.Map.Iter.{iter_end}
use Rattle.tup_scan_diff.specs.Touched.{FindsRoots}
use Rattle.tup_scan_diff.proofs.Looking.{HasEntry, entry_looked, flag_entries, looked_as, no_entries}
use Rattle.tup_scan_diff.proofs.present.Present.push_flagged.Goals as goal

pub loop-number-init : goal.loop-number-init
loop-number-init c = no_entries c.args.self.now

pub loop-number-preserved : goal.loop-number-preserved
loop-number-preserved c =
    subst (λ (l : List (ℕ × Unit {0})). FindsRoots c.args.self.now (HasEntry l) c.args.roots.now c.push_root.new.roots) (sym (map-append deref_pair c.loop-number.yielded ((c.in-Some.number, c.in-Some.field-0-1) ∷ [])))
    (entry_looked c.args.self.now (map deref_pair c.loop-number.yielded) c.in-Some.number.now c.in-Some.field-0-1.now c.loop-number.invariant c.in_ok-push_root.ensures.roots)

pub returns-clause-roots : goal.returns-clause-roots
returns-clause-roots c =
    let flags = c.args.self.now.nodes.now.flags in
    let all = iter_end deref_pair (finite.entries flags) c.loop-number.yielded c.into_iter-number-iterator.result c.loop-number.number-iterator c.next.new.self c.next.result
    (c.into_iter-number-iterator.ensures.into_iter_gives ∙ c.flags-number-items.ensures) c.loop-number.yielded_by c.in-None.is c.next.ensures.steps in
    looked_as c.args.self.now (flag_entries flags)
    (subst (λ (l : List (ℕ × Unit {0})). FindsRoots c.args.self.now (HasEntry l) c.args.roots.now c.loop-number.roots) all.0 c.loop-number.invariant)
