use Rattle.std.proofs.Common.{◌≡◌, ℕ, List, length, get_or, take, sym, ap, ◌∙◌, subst, arith}
use Rattle.std.proofs.lemmas.List.{get_or_default, get_or_past, take_all}
use Rattle.tup_path.specs.Name.{Names}
use Rattle.tup_rule.specs.declared.rule.Rule.{Rule}
use Rattle.tup_core.specs.Links.{HasMakersIn, AddsMakerIn}
use Rattle.tup_core.proofs.NearLaws.{begins, goes_on, next_within}
use Rattle.tup_core.proofs.LinksLaws.{makers_none, makers_more, makers_idle}
use Rattle.tup_core.proofs.links.makers_of.Goals as goal

pub bounds-rules-at : goal.bounds-rules-at
bounds-rules-at c = next_within c.args.near.now (length c.args.rules.now) c.requires.range c.requires.ascending c.loop-number.number-index c.loop-number-test.true

pub loop-number-init : goal.loop-number-init
loop-number-init c =
    let set = c.args.made.now in
    let rules = c.args.rules.now in
    begins c.args.near.now (length rules) c.requires.range c.requires.ascending (λ n. HasMakersIn set (take n rules) c.new-makers.result) (makers_idle set rules c.args.near.now c.new-makers.result c.requires)
    (makers_none set c.new-makers.result c.new-makers.ensures.empty)

pub loop-number-preserved : goal.loop-number-preserved
loop-number-preserved c =
    let set = c.args.made.now in
    let rules = c.args.rules.now in
    let near = c.args.near.now in
    let i = c.loop-number.number-index in
    let at = get_or near i 0 in
    let here : get_or near i (length rules) ≡ at = get_or_default near i (length rules) 0 c.loop-number-test.true in
    goes_on near (length rules) c.requires.range c.requires.ascending (λ n. HasMakersIn set (take n rules) c.add_made.new.makers) (makers_idle set rules near c.add_made.new.makers c.requires) i c.loop-number-test.true
    (makers_more set rules at c.index-rules-at.result c.loop-number.makers c.add_made.new.makers
    (subst (λ (n : ℕ). HasMakersIn set (take n rules) c.loop-number.makers) here c.loop-number.invariant) (next_within near (length rules) c.requires.range c.requires.ascending i c.loop-number-test.true) c.index-rules-at.is
    (subst (λ (outputs : List Names). AddsMakerIn set outputs at c.loop-number.makers c.add_made.new.makers) (c.as_slice.ensures ∙ ap (λ (r : Rule). r.outputs) (sym c.index-rules-at.is)) c.in_ok-add_made.ensures))

pub returns : goal.returns
returns c =
    let rules = c.args.rules.now in
    let past : get_or c.args.near.now c.loop-number.number-index (length rules) ≡ length rules = get_or_past c.args.near.now c.loop-number.number-index (length rules) (omega arith) in
    subst (λ (l : List Rule). HasMakersIn c.args.made.now l c.loop-number.makers) (take_all _ rules (omega (arith, past))) c.loop-number.invariant
