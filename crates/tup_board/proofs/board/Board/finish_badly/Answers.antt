use Rattle.std.proofs.Common.{[], sym, subst}
use Rattle.tup_core.specs.declared.event.CoreEvent.TheVariants.{Finish}
use Rattle.tup_core.specs.declared.plan.Plan.{Plan}
use Rattle.tup_core.specs.Step.{IsEnabled}
use Rattle.tup_schedule.specs.Course.{GoesOn, now}
use Rattle.tup_runner.specs.Report.{asks_of, ended_of}
use Rattle.tup_board.proofs.Answering.{bad_kept, enabled_there}
use Rattle.tup_board.proofs.Judging.{bad_can, bad_sound}
use Rattle.tup_board.proofs.Kept.{plan_here, sound_seen, to_course}
use Rattle.tup_board.proofs.Stamps.{has_on}
use Rattle.tup_board.proofs.board.Board.finish_badly.Goals as goal

pub finish_badly-requires-clause-goes_on : goal.finish_badly-requires-clause-goes_on
finish_badly-requires-clause-goes_on g c = to_course g.S.Site g.R.Runner _ _ _ _ _ _ _ c.self.invariant.0 c.self.invariant.1 c.self.view_is (λ it. GoesOn it c.args.seat) c.requires.report.it

pub finish_badly-requires-clause-enabled : goal.finish_badly-requires-clause-enabled
finish_badly-requires-clause-enabled g c =
    let sound = sound_seen g.S.Site g.R.Runner _ _ c.self.invariant.1 c.self.view_is in
    let report = c.args.report.now in
    let can = bad_can g.S.Site g.R.Runner c.args.self.now sound c.args.seat (ended_of report) report.dir report.text (asks_of report) c.requires.report c.args.verdict c.requires.judged c.requires.bad in
    subst (λ (p : Plan). IsEnabled p (now c.self.inside.course) (Finish c.args.seat c.args.verdict []))
    (sym (plan_here g.S.Site g.R.Runner _ _ _ _ _ _ _ c.self.invariant.0 c.self.invariant.1 c.self.view_is c.args.plan.now c.requires.plan))
    (enabled_there g.S.Site g.R.Runner _ _ _ _ _ _ _ c.self.invariant.0 c.self.invariant.1 c.self.view_is (Finish c.args.seat c.args.verdict []) can)

pub invariant_of-self-2 : goal.invariant_of-self-2
invariant_of-self-2 g c =
    let sound = sound_seen g.S.Site g.R.Runner _ _ c.self.invariant.1 c.self.view_is in
    let report = c.args.report.now in
    let more = bad_sound g.S.Site g.R.Runner c.args.self.now sound c.args.seat (ended_of report) report.dir report.text (asks_of report) c.requires.report c.args.verdict c.requires.judged c.requires.bad report.means in
    let kept = bad_kept g.S.Site g.R.Runner _ _ _ _ _ _ _ c.self.invariant.0 c.self.invariant.1 c.self.view_is c.args.seat c.args.verdict c.finish_badly.new.self c.in_ok-finish_badly.ensures.ok more in
    (kept.files, kept.sound, c.self.invariant.2, has_on _ _ _ _ kept.stamps c.self.invariant.3)
