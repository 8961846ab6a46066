use Rattle.std.proofs.Common.{List, ℕ, sym, ap, ◌∙◌, subst, arith}
use Rattle.std.proofs.lemmas.List.{take_all}
use Rattle.tup_rule.specs.declared.rule.Rule.{Rule}
use Rattle.tup_core.specs.Links.{AreMade}
use Rattle.tup_core.proofs.LinksLaws.{next_rule, made_none, made_more}
use Rattle.tup_core.proofs.links.made_by.Goals as goal

pub bounds-rules-at : goal.bounds-rules-at
bounds-rules-at c = next_rule c.args.rules.now c.args.reach.now c.loop-at.at-index c.requires c.loop-at-test.true

pub loop-at-init : goal.loop-at-init
loop-at-init c = made_none c.args.rules.now c.new-made.result c.new-made.ensures.empty

pub loop-at-preserved : goal.loop-at-preserved
loop-at-preserved c =
    made_more c.args.rules.now c.args.reach.now c.loop-at.at-index c.index-rules-at.result c.as_slice.result.now c.loop-at.made c.add_paths.new.set c.loop-at-test.true
    (next_rule c.args.rules.now c.args.reach.now c.loop-at.at-index c.requires c.loop-at-test.true) c.index-rules-at.is (c.as_slice.ensures ∙ ap (λ (r : Rule). r.outputs) (sym c.index-rules-at.is)) c.in_ok-add_paths.ensures c.loop-at.invariant

pub returns : goal.returns
returns c = subst (λ (l : List ℕ). AreMade c.args.rules.now l c.loop-at.made) (take_all c.loop-at.at-index c.args.reach.now (omega arith)) c.loop-at.invariant
