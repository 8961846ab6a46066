use Rattle.std.proofs.Common.{◌≡◌, ◌≤◌, length}
use Rattle.std.specs.Vec.{vec_capacity}
use Rattle.tup_top.specs.Crew.{IsCrew}
use Rattle.tup_history.specs.History.{IsHistory, standing}
use Rattle.tup_history.proofs.life.history.Given as goal

-- the turns so far are a history
abbrev pub invariant-loop-turn : goal.invariant-loop-turn
invariant-loop-turn g l = record {
  history : IsHistory g.R.Runner.tells g.R.Runner.next l.yielded l.ends.items (standing g.R.Runner g.K.Sink l.fn.site l.fn.crew.items l.fn.out) (standing g.R.Runner g.K.Sink l.life.site l.life.crew.items l.out);
  crew : IsCrew l.life.crew.items;
  count : length l.ends.items ≡ length l.yielded;
  room : length l.fn.turns.items ≤ vec_capacity l.ends;
}
