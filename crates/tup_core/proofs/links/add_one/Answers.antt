use Rattle.std.proofs.Common.{◌∙◌, sym}
use Rattle.tup_core.proofs.LinksLaws.{adds_new, adds_none}
use Rattle.tup_core.proofs.links.add_one.Goals as goal

pub returns-in_ok-insert : goal.returns-in_ok-insert
returns-in_ok-insert c =
    adds_new c.args.made.now c.args.output.now c.in_ok-clone.field-0 c.args.at c.args.makers.now c.insert.new.self (sym c.is_new.ensures ∙ c.if-is_new.true) c.in_ok-clone.ensures.cases c.in_ok-insert.ensures.updates.0

pub returns-else-is_new : goal.returns-else-is_new
returns-else-is_new c = adds_none c.args.made.now c.args.output.now c.args.at c.args.makers.now (sym c.is_new.ensures ∙ c.if-is_new.false)
