use Rattle.std.proofs.Common.{◌∷◌, ◌++◌, [], ap, ◌∙◌, rules}
use Rattle.tup_graph.specs.declared.edit.Edit.{Edit}
use Rattle.tup_rule_diff.specs.Edits.{rule_more}
use Rattle.tup_rule_diff.proofs.Placing.{no_places, place_more, rule_put}
use Rattle.tup_rule_diff.proofs.Pushing.{given}
use Rattle.tup_rule_diff.proofs.putting.push_more.Goals as goal

pub loop-at-init : goal.loop-at-init
loop-at-init c = record {
  edits = search rules;
  places = no_places c.new-places.result c.new-places.ensures.lists;
}

pub loop-at-preserved : goal.loop-at-preserved
loop-at-preserved c =
    let rules = c.args.rules.now in
    let rule = c.index-rules-at.result in
    let place = c.in_ok-place.place in
    record {
      edits = rule_put rules c.loop-at.at rule c.loop-at-test.true c.index-rules-at.is c.loop-at.places place c.args.edits.now c.loop-at.edits c.push.new.self c.loop-at.invariant.places c.in_ok-place.ensures.place c.loop-at.invariant.edits
          (c.in_ok-push.ensures.ok ∙ ap (λ (e : Edit). c.loop-at.edits ++ e ∷ []) (given c.in_ok-more.field-0 (rule_more c.loop-at.at place rule) _ c.in_ok-more.ensures));
      places = place_more rules c.loop-at.at rule c.loop-at-test.true c.index-rules-at.is c.loop-at.places c.next_place.new.places c.loop-at.invariant.places c.in_ok-place.ensures.ok;
    }
