use Rattle.std.proofs.Common.{◌≡◌, true, false, List, ◌∷◌, [], ◌∙◌, map, sym, subst}
use Rattle.std.specs.FinMap as finite
use Rattle.std.specs.Map.Iter.{deref_pair}
use Rattle.std.proofs.lemmas.List.{map-append}
use Rattle.std.proofs.lemmas.Map.Iter.{iter_end}
use Rattle.tup_rule.specs.declared.question.Noted.{Noted}
use Rattle.tup_rule.specs.declared.question.Question.{Question}
use Rattle.tup_rule.specs.declared.question.Reading.{Reading}
use Rattle.tup_scan_diff.proofs.Editing.{entry_found}
use Rattle.tup_refresh.specs.Idle.{AreBack}
use Rattle.tup_refresh.proofs.Idling.{AllBack, back_more, back_none}
use Rattle.tup_refresh.proofs.idle.all_ask_back.Goals as goal

pub loop-dir-init : goal.loop-dir-init
loop-dir-init c = back_none c.args.nodes.now

pub loop-dir-preserved : goal.loop-dir-preserved
loop-dir-preserved c =
    let g = c.args.nodes.now in
    let dir = c.in-Some.dir.now in
    let reading = c.in-Some.reading.now in
    subst (AllBack g) (sym (map-append deref_pair c.loop-dir.yielded ((c.in-Some.dir, c.in-Some.reading) ∷ [])))
    (back_more g (map deref_pair c.loop-dir.yielded) (dir, reading) c.loop-dir.invariant
    (subst (λ (l : List (Question × Noted)). AreBack g dir l) c.as_slice.ensures (c.are_back.ensures c.if-not-are_back.false)))

pub returns : goal.returns
returns c = λ is dir left there.
    let all = iter_end deref_pair (finite.entries c.args.nodes.now.readings) c.loop-dir.yielded c.into_iter-dir-iterator.result c.loop-dir.dir-iterator c.next.new.self c.next.result
    (c.into_iter-dir-iterator.ensures.into_iter_gives ∙ c.readings-dir-items.ensures) c.loop-dir.yielded_by c.in-None.is c.next.ensures.steps in
    subst (AllBack c.args.nodes.now) all.0 c.loop-dir.invariant dir left (entry_found c.args.nodes.now.readings dir left there)

pub returns-then-not-are_back : goal.returns-then-not-are_back
returns-then-not-are_back c = λ is. let wrong : false ≡ true = is in cc
