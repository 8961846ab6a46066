use Rattle.std.proofs.Common.{◌∙◌}
use Rattle.std.proofs.lemmas.Option.{unwrap_or-slice_get}
use Rattle.std.proofs.lemmas.Result.{IfOk-weaker}
use Rattle.tup_core.specs.Waiting.{AreOnce, AreBehind, AreWaiters}
use Rattle.tup_core.proofs.WalkLaws.{once_waiters, behind_waiters, no_waiters}
use Rattle.tup_core.proofs.walk.waiters_of.Goals as goal

pub returns-then-reached-from-clause-waiters : goal.returns-then-reached-from-clause-waiters
returns-then-reached-from-clause-waiters c =
    let a = c.args in
    IfOk-weaker c.readers_once.result (AreOnce a.readers.now a.from) (AreWaiters a.readers.now a.reached.now a.entries.now a.from)
    (once_waiters a.readers.now a.reached.now a.entries.now a.from (unwrap_or-slice_get a.reached.now a.from _ ∙ c.if-reached-from.true)) c.readers_once.ensures.once

pub returns-then-entries-from-clause-waiters : goal.returns-then-entries-from-clause-waiters
returns-then-entries-from-clause-waiters c =
    let a = c.args in
    IfOk-weaker c.behind.result (AreBehind a.readers.now a.reached.now a.from) (AreWaiters a.readers.now a.reached.now a.entries.now a.from)
    (behind_waiters a.readers.now a.reached.now a.entries.now a.from (unwrap_or-slice_get a.reached.now a.from _ ∙ c.if-reached-from.false) (unwrap_or-slice_get a.entries.now a.from _ ∙ c.if-entries-from.true)) c.behind.ensures.behind

pub returns-clause-waiters : goal.returns-clause-waiters
returns-clause-waiters c =
    let a = c.args in
    no_waiters a.readers.now a.reached.now a.entries.now a.from (unwrap_or-slice_get a.reached.now a.from _ ∙ c.if-reached-from.false) (unwrap_or-slice_get a.entries.now a.from _ ∙ c.if-entries-from.false) c.new.result c.new.ensures
