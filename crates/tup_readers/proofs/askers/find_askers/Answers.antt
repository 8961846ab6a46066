use Rattle.std.proofs.Common.{List, ◌∷◌, [], ◌++◌, ◌∙◌, map, sym, ap}
use Rattle.std.specs.FinMap as finite
use Rattle.std.specs.Map.Iter.{deref_pair}
use Rattle.std.proofs.lemmas.List.{map-append}
use Rattle.std.proofs.lemmas.Map.Iter.{iter_end}
use Rattle.tup_path.specs.Name.{Names}
use Rattle.tup_path.specs.Order.{by_names}
use Rattle.tup_rule.specs.declared.question.Reading.{Reading}
use Rattle.tup_readers.specs.Askers.{has_asked, key_if, those_in}
use Rattle.tup_readers.proofs.Asking.{askers_ascend, askers_found, those_more}
use Rattle.tup_readers.proofs.askers.find_askers.Goals as goal

pub loop-dir-init : goal.loop-dir-init
loop-dir-init c = c.new-dirs.ensures.items

pub loop-dir-preserved : goal.loop-dir-preserved
loop-dir-preserved c =
    let test = has_asked c.args.question.now in
    let seen = map deref_pair c.loop-dir.yielded in
    let dir = c.in-Some.dir.now in
    let reading = c.in-Some.reading.now in
    c.in_ok-push_if_asked.ensures
    ∙ ap (λ (l : List Names). l ++ key_if (test reading) dir) c.loop-dir.invariant
    ∙ sym (those_more by_names test seen (dir, reading))
    ∙ ap (λ (l : List (Names × Reading)). those_in test l) (sym (map-append deref_pair c.loop-dir.yielded ((c.in-Some.dir, c.in-Some.reading) ∷ [])))

pub returns-clause-folders : goal.returns-clause-folders
returns-clause-folders c =
    let all = iter_end deref_pair (finite.entries c.args.nodes.now.readings) c.loop-dir.yielded c.into_iter-dir-iterator.result c.loop-dir.dir-iterator c.next.new.self c.next.result
    (c.into_iter-dir-iterator.ensures.into_iter_gives ∙ c.readings-dir-items.ensures) c.loop-dir.yielded_by c.in-None.is c.next.ensures.steps in
    askers_found c.args.nodes.now c.args.question.now c.loop-dir.dirs.items (c.loop-dir.invariant ∙ ap (λ (l : List (Names × Reading)). those_in (has_asked c.args.question.now) l) all.0)

pub returns-clause-ascending : goal.returns-clause-ascending
returns-clause-ascending c =
    let all = iter_end deref_pair (finite.entries c.args.nodes.now.readings) c.loop-dir.yielded c.into_iter-dir-iterator.result c.loop-dir.dir-iterator c.next.new.self c.next.result
    (c.into_iter-dir-iterator.ensures.into_iter_gives ∙ c.readings-dir-items.ensures) c.loop-dir.yielded_by c.in-None.is c.next.ensures.steps in
    askers_ascend c.args.nodes.now c.args.question.now c.loop-dir.dirs.items (c.loop-dir.invariant ∙ ap (λ (l : List (Names × Reading)). those_in (has_asked c.args.question.now) l) all.0)
