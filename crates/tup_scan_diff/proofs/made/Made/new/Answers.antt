use Rattle.std.proofs.Common.{◌≡◌, List, ◌∷◌, [], ◌∙◌, map, sym, subst}
use Rattle.std.specs.Prelude.{◌⊎◌}
use Rattle.std.specs.FinMap as finite
use Rattle.std.specs.Map.Iter.{deref_pair}
use Rattle.std.proofs.lemmas.List.{map-append}
use Rattle.std.proofs.lemmas.Map.Iter.{iter_end}
use Rattle.tup_path.specs.Name.{Names}
use Rattle.tup_rule.specs.declared.draft.Draft.{Draft}
use Rattle.tup_rule.specs.declared.question.Reading.{Reading}
use Rattle.tup_scan_diff.specs.Made.{IsGiven}
use Rattle.tup_scan_diff.proofs.Making.{AreMadeOf, all_made, made_more, none_made}
use Rattle.tup_scan_diff.proofs.made.Made.new.Goals as goal

pub loop-dir-init : goal.loop-dir-init
loop-dir-init c = none_made _ c.new.ensures

pub loop-dir-preserved : goal.loop-dir-preserved
loop-dir-preserved c =
    let dir = c.in-Some.dir.now in
    let reading = c.in-Some.reading.now in
    let before = map deref_pair c.loop-dir.yielded in
    subst (λ (l : List (Names × Reading)). AreMadeOf l c.give_many.new.self) (sym (map-append deref_pair c.loop-dir.yielded ((c.in-Some.dir, c.in-Some.reading) ∷ [])))
    (made_more before dir reading c.loop-dir.made c.give_many.new.self c.loop-dir.invariant
    (subst (λ (l : List Draft). (c.give_many.new.self ≡ c.loop-dir.made) ⊎ IsGiven dir l c.loop-dir.made c.give_many.new.self) c.as_slice.ensures c.in_ok-give_many.ensures.given))

pub returns-clause-made : goal.returns-clause-made
returns-clause-made c =
    let all = iter_end deref_pair (finite.entries c.args.nodes.now.readings) c.loop-dir.yielded c.into_iter-dir-iterator.result c.loop-dir.dir-iterator c.next.new.self c.next.result
    (c.into_iter-dir-iterator.ensures.into_iter_gives ∙ c.readings-dir-items.ensures) c.loop-dir.yielded_by c.in-None.is c.next.ensures.steps in
    all_made c.args.nodes.now.readings c.loop-dir.made (subst (λ (l : List (Names × Reading)). AreMadeOf l c.loop-dir.made) all.0 c.loop-dir.invariant)
