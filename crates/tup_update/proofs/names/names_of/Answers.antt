use Rattle.std.proofs.lemmas.Result.{IfOk-weaker}
use Rattle.tup_update.specs.Names.{AreNamesOf, IsWaiting}
use Rattle.tup_update.proofs.Chained.{names_wait}
use Rattle.tup_update.proofs.names.names_of.Goals as goal

pub returns : goal.returns
returns c =
    let waiting = c.in_ok-waiting.waiting in
    IfOk-weaker c.of.result (IsWaiting waiting) (AreNamesOf c.args.plan.now) (names_wait c.args.plan.now waiting c.in_ok-waiting.ensures) c.of.ensures
