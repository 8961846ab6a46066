use Rattle.std.proofs.Common.{◌≡◌, false, drop, Result, is_some}
use Rattle.tup_query.specs.declared.fault.ReadEnd.{ReadEnd}
use Rattle.tup_rule_line.specs.declared.state.State.{State}
use Rattle.tup_rule_line.specs.Job.{with_jobs}
use Rattle.tup_query.specs.Went.{Asker, asker, Went}
use Rattle.tup_rule_line.proofs.command.with_jobs.Given as goal

abbrev pub invariant-loop-job : goal.invariant-loop-job
invariant-loop-job g l = record {
  on : is_some (g.E.Env.stopped l.env) ≡ false;
  so_far : (after : Asker) (end : Result State ReadEnd)
      → Went g.E.Env.tells (asker (g.E.Env.answers l.env) (g.E.Env.stopped l.env) (g.E.Env.asked l.env) l.log) (with_jobs l.at l.words l.sources l.reached (drop l.job-index l.jobs)) after end
      → Went g.E.Env.tells (asker (g.E.Env.answers l.fn.env) (g.E.Env.stopped l.fn.env) (g.E.Env.asked l.fn.env) l.fn.log) (with_jobs l.at l.words l.sources l.fn.state l.jobs) after end;
}
