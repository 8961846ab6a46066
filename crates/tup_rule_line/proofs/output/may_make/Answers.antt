use Rattle.std.proofs.Common.{not, sym, ap, ◌∙◌}
use Rattle.tup_rule_line.proofs.Below.{below_test}
use Rattle.tup_rule_line.proofs.output.may_make.Goals as goal

pub returns-then-is_below : goal.returns-then-is_below
returns-then-is_below c =
    let same = below_test c.is_below.result c.args.dir.now c.args.path.now c.is_below.ensures in
    rw (sym same ∙ c.if-is_below.true) (ap not c.is_reserved.ensures)

pub returns-else-is_below : goal.returns-else-is_below
returns-else-is_below c =
    let same = below_test c.is_below.result c.args.dir.now c.args.path.now c.is_below.ensures in
    rw (sym same ∙ c.if-is_below.false) c.if-is_below.false
