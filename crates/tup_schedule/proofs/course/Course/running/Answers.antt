use Rattle.std.proofs.Common.{ap, ◌∙◌}
use Rattle.tup_core.specs.Step.{State}
use Rattle.tup_schedule.proofs.Views.{now_is}
use Rattle.tup_schedule.proofs.course.Course.running.Goals as goal

pub returns : goal.returns
returns c = c.running.ensures ∙ ap (λ (s : State). s.seats c.args.seat) (now_is _ _ _ _ _ _ c.self.invariant c.self.view_is)
