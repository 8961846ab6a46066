use Rattle.std.proofs.Common.{◌≡◌, ℕ, length, get_or, subst, arith}
use Rattle.std.proofs.lemmas.List.{get_or_default, get_or_past}
use Rattle.tup_core.specs.Links.{AreListed}
use Rattle.tup_core.proofs.NearLaws.{begins, goes_on, next_within}
use Rattle.tup_core.proofs.LinksLaws.{producers_within, listed_more, listed_idle}
use Rattle.tup_core.proofs.links.note_rules.Goals as goal

pub bounds-rules-at : goal.bounds-rules-at
bounds-rules-at c = next_within c.args.near.now (length c.args.rules.now) c.requires.near.range c.requires.near.ascending c.loop-number.number-index c.loop-number-test.true

pub note_rule-requires : goal.note_rule-requires
note_rule-requires c =
    producers_within c.args.makers.now c.index-rules-at.result (length c.loop-number.lists) (λ path at is. let within = c.requires.below path at is in omega (arith, within, c.loop-number.auto.lists))

pub loop-number-init : goal.loop-number-init
loop-number-init c =
    let rules = c.args.rules.now in
    let makers = c.args.makers.now in
    begins c.args.near.now (length rules) c.requires.near.range c.requires.near.ascending (λ n. AreListed rules makers n c.args.lists.now) (listed_idle rules c.args.near.now makers c.args.lists.now c.requires.near) c.requires.none

pub loop-number-preserved : goal.loop-number-preserved
loop-number-preserved c =
    let rules = c.args.rules.now in
    let makers = c.args.makers.now in
    let near = c.args.near.now in
    let i = c.loop-number.number-index in
    let at = get_or near i 0 in
    let here : get_or near i (length rules) ≡ at = get_or_default near i (length rules) 0 c.loop-number-test.true in
    goes_on near (length rules) c.requires.near.range c.requires.near.ascending (λ n. AreListed rules makers n c.note_rule.new.lists) (listed_idle rules near makers c.note_rule.new.lists c.requires.near) i c.loop-number-test.true
    (listed_more rules makers at c.index-rules-at.result c.loop-number.lists c.note_rule.new.lists
    (subst (λ (n : ℕ). AreListed rules makers n c.loop-number.lists) here c.loop-number.invariant) (next_within near (length rules) c.requires.near.range c.requires.near.ascending i c.loop-number-test.true) c.index-rules-at.is
    c.in_ok-note_rule.ensures)

pub returns : goal.returns
returns c =
    let past : get_or c.args.near.now c.loop-number.number-index (length c.args.rules.now) ≡ length c.args.rules.now = get_or_past c.args.near.now c.loop-number.number-index (length c.args.rules.now) (omega arith) in
    subst (λ (n : ℕ). AreListed c.args.rules.now c.args.makers.now n c.loop-number.lists) past c.loop-number.invariant
