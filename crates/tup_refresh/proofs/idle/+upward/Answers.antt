use Rattle.std.proofs.Common.{◌∙◌, ap, sym, arith}
use Rattle.tup_path.specs.Name.{Names}
use Rattle.tup_refresh.specs.Idle.{up_to}
use Rattle.tup_refresh.proofs.Upward.{back_up, back_where_up_to, parent_is, shorter}
use Rattle.tup_refresh.proofs.idle.+upward.Goals as goal

pub is_above_back-is_home_back-requires : goal.is_above_back-is_home_back-requires
is_above_back-is_home_back-requires t c =
    let above_is = parent_is c.args.path.now c.in-Ok-Some.dir c.parent.result c.in-Ok-Some.field-0 c.parent.ensures c.in-Ok-Some.is c.in-Ok-Some.field-0-is in
    (omega (arith, shorter c.args.path.now c.in-Ok-Some.dir above_is), tt)

pub is_home_back-returns-then-is_up_to : goal.is_home_back-returns-then-is_up_to
is_home_back-returns-then-is_up_to t c = λ is.
    back_where_up_to c.args.nodes.now c.args.reader.now c.args.dir.now
    (ap (λ (dir : Names). up_to dir c.args.reader.now) (sym c.names.ensures.names) ∙ sym c.is_up_to.ensures ∙ c.if-is_up_to.true)

pub is_home_back-returns : goal.is_home_back-returns
is_home_back-returns t c = λ is.
    back_up c.args.nodes.now c.args.reader.now c.args.dir.now (c.waits_for_none.ensures c.if-not-waits_for_none.false) (c.is_above_back.ensures is)
