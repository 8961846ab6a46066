use Rattle.std.proofs.Common.{sym, ap, ◌∙◌}
use Rattle.std.specs.Option.{option_copied}
use Rattle.tup_core.specs.Step.{State}
use Rattle.tup_schedule.proofs.Kept.{access_told}
use Rattle.tup_schedule.proofs.Views.{now_is, core_here}
use Rattle.tup_schedule.proofs.course.Course.access.Goals as goal

pub allows-requires-clause-core : goal.allows-requires-clause-core
allows-requires-clause-core c = core_here _ _ _ _ _ _ c.self.invariant c.self.view_is c.args.plan.now c.requires.plan

pub allows-requires-clause-rule : goal.allows-requires-clause-rule
allows-requires-clause-rule c = ((core_here _ _ _ _ _ _ c.self.invariant c.self.view_is c.args.plan.now c.requires.plan).running c.args.seat c.in-Some.running.now (sym c.running.ensures ∙ ap option_copied c.in-Some.is)).0

pub returns : goal.returns
returns c = access_told c.args.self.now c.args.plan.now c.args.seat c.in-Some.running.now c.args.text.now c.allows.result c.requires.plan (ap (λ (s : State). s.seats c.args.seat) (sym (now_is _ _ _ _ _ _ c.self.invariant c.self.view_is)) ∙ sym c.running.ensures ∙ ap option_copied c.in-Some.is) c.allows.ensures
