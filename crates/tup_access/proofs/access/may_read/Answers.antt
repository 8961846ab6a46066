use Rattle.std.proofs.Common.{◌∙◌, sym}
use Rattle.tup_rule.specs.Rule.{declares, is_generated, writes}
use Rattle.tup_access.proofs.Reading.{may_declared, may_own, may_plain}
use Rattle.tup_access.proofs.access.may_read.Goals as goal

pub returns-then-not-contains : goal.returns-then-not-contains
returns-then-not-contains c = λ rules is are.
    let rule = c.args.rule.now in
    let path = c.args.path.now in
    sym (may_plain (is_generated rules path) (declares rule path) (writes rule path) (sym (is.each path) ∙ sym c.contains.ensures ∙ c.if-not-contains.true))

pub returns-then-declare : goal.returns-then-declare
returns-then-declare c = λ rules is are.
    let rule = c.args.rule.now in
    let path = c.args.path.now in
    sym (may_declared (is_generated rules path) (declares rule path) (writes rule path) (sym (c.declare.ensures are) ∙ c.if-declare.true))

pub returns : goal.returns
returns c = λ rules is are.
    let rule = c.args.rule.now in
    let path = c.args.path.now in
    c.writes.ensures ∙ sym (may_own (is_generated rules path) (declares rule path) (writes rule path) (sym (is.each path) ∙ sym c.contains.ensures ∙ c.if-not-contains.false) (sym (c.declare.ensures are) ∙ c.if-declare.false))
