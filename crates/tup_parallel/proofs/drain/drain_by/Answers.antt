use Rattle.std.proofs.Common.{◌∙◌, ap, sym}
use Rattle.tup_parallel.proofs.Closing.{DrainsBy, closed}
use Rattle.tup_parallel.proofs.drain.drain_by.Goals as goal

pub drain-drained-requires-clause-plan : goal.drain-drained-requires-clause-plan
drain-drained-requires-clause-plan g c = c.requires.plan ∙ sym (ap (λ o. o.plan) c.worked-board.ensures.leaves.opening)

pub drain-drained-requires-clause-none_runs : goal.drain-drained-requires-clause-none_runs
drain-drained-requires-clause-none_runs g c = c.worked-board.ensures.leaves.none_runs

pub returns : goal.returns
returns g c =
    let leaves = c.worked-board.ensures.leaves in
    let drain = c.drain-drained in
    let by : DrainsBy g.S.Site g.R.Runner c.args.plan.now c.worked-board.result.0 drain.new.self c.index_mut.result.now drain.new.runner drain.result = record {
      drains = drain.ensures.drains;
      opening = drain.ensures.opening;
      events = drain.ensures.history.0;
      adds = drain.ensures.history.1;
      own = drain.ensures.history.2;
      idle = drain.ensures.idle;
      ran = drain.ensures.ran;
      order = drain.ensures.order;
      cause = drain.ensures.cause;
      steady = drain.ensures.steady;
    } in
    let it = closed g.S.Site g.R.Runner c.args.plan.now c.args.board c.worked-board.result.0 drain.new.self c.args.crew.items c.worked-board.result.1.items c.index_mut.result.now drain.new.runner drain.result leaves c.requires.crew.0 c.index_mut.ensures.value by c.requires.none c.worked-board.ensures.alone in record {
      drains = drain.ensures.drains;
      done = drain.ensures.done;
      clean = drain.ensures.clean;
      over = drain.ensures.over;
      opening = drain.ensures.opening ∙ leaves.opening;
      below = it.below;
      many = it.many;
      ran = it.ran;
      stood = it.stood;
      failed = it.failed;
      steady = it.steady;
      alone = it.alone;
    }
