use Rattle.std.proofs.Common.{◌≡◌, List, Option, true, subst}
use Rattle.std.specs.Prelude.{◌↔◌}
use Rattle.tup_path.specs.Name.{Names}
use Rattle.tup_stamp.specs.declared.Stamp.{Stamp}
use Rattle.tup_why.specs.Cause.{GiveNone}
use Rattle.tup_why.proofs.Checks.{else_neither, then_both}
use Rattle.tup_why.proofs.checking.is_idle.Goals as goal

pub returns-then-is_same : goal.returns-then-is_same
returns-then-is_same c =
    then_both c.give_none.result (c.is_same.ensures.0 c.if-is_same.true)
    (subst (λ (asks : List (Names × Option Stamp)). (c.give_none.result ≡ true) ↔ GiveNone c.args.nodes.now c.args.plan.now c.args.rule.now asks) c.as_slice.ensures c.give_none.ensures)

pub returns-else-is_same : goal.returns-else-is_same
returns-else-is_same c = else_neither c.is_same.result c.if-is_same.false c.is_same.ensures
