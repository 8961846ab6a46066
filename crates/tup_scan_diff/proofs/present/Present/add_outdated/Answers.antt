use Rattle.std.proofs.Common.{List, ◌∷◌, [], ◌∙◌, sym, subst, map}
use Rattle.std.specs.FinMap as finite
use Rattle.std.specs.Map.Iter.{deref_pair}
use Rattle.std.proofs.lemmas.Map.Iter.{iter_end}
use Rattle.std.proofs.lemmas.List.{map-append}
use Rattle.tup_path.specs.Name.{Names}
use Rattle.tup_path.specs.Order.{by_names}
use Rattle.tup_rule.specs.declared.question.Reading.{Reading}
use Rattle.tup_scan_diff.specs.Sets.{GrowsBy}
use Rattle.tup_scan_diff.specs.Stale.{IsOutdatedIn}
use Rattle.tup_scan_diff.proofs.Staled.{outdated_more}
use Rattle.tup_scan_diff.proofs.present.Present.add_outdated.Goals as goal

pub loop-dir-preserved : goal.loop-dir-preserved
loop-dir-preserved c = λ config is.
    subst (λ (l : List (Names × Reading)). GrowsBy by_names (IsOutdatedIn config c.args.self.now l) c.args.dirs.now c.add_if_outdated.new.dirs) (sym (map-append deref_pair c.loop-dir.yielded ((c.in-Some.dir, c.in-Some.reading) ∷ [])))
    (outdated_more config c.args.self.now (map deref_pair c.loop-dir.yielded) c.in-Some.dir.now c.in-Some.reading.now c.args.dirs.now c.loop-dir.dirs c.add_if_outdated.new.dirs (c.loop-dir.invariant config is)
    (c.in_ok-add_if_outdated.ensures.added config is))

pub returns-clause-added : goal.returns-clause-added
returns-clause-added c = λ config is.
    let all = iter_end deref_pair (finite.entries c.args.self.now.nodes.now.readings) c.loop-dir.yielded c.into_iter-dir-iterator.result c.loop-dir.dir-iterator c.next.new.self c.next.result
    (c.into_iter-dir-iterator.ensures.into_iter_gives ∙ c.readings-dir-items.ensures) c.loop-dir.yielded_by c.in-None.is c.next.ensures.steps in
    subst (λ (l : List (Names × Reading)). GrowsBy by_names (IsOutdatedIn config c.args.self.now l) c.args.dirs.now c.loop-dir.dirs) all.0 (c.loop-dir.invariant config is)
