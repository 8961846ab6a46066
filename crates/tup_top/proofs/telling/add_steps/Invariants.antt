use Rattle.std.proofs.Common.{◌≡◌, ◌++◌, drop}
use Rattle.tup_top.specs.Telling.{step_events}
use Rattle.tup_top.proofs.telling.add_steps.Given as goal

abbrev pub invariant-loop-step : goal.invariant-loop-step
invariant-loop-step l = l.events.items ++ step_events (drop l.step-index l.steps) l.begun l.ended ≡ l.fn.events.items ++ step_events l.steps l.fn.begun l.fn.ended
