use Rattle.std.proofs.Common.{◌≡◌, ◌++◌, take}
use Rattle.tup_tell.proofs.telling.tell_one.Given as goal

abbrev pub invariant-loop-event : goal.invariant-loop-event
invariant-loop-event g l = record {
  told : g.T.Reporter.told l.reporter ≡ g.T.Reporter.told l.fn.reporter ++ take l.event-index l.events;
  steady : g.T.Reporter.faults l.reporter ≡ g.T.Reporter.faults l.fn.reporter;
}
