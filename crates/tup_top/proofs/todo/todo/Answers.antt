use Rattle.std.proofs.Common.{◌≡◌, Ok, Err, Some, inl, subst}
use Rattle.tup_phases.specs.Prepared.{StopsSurvey}
use Rattle.tup_promise.specs.Kept.{IsKeptBySome}
use Rattle.tup_top.specs.Lines.{last_line}
use Rattle.tup_top.specs.Printed.{Ends, Prints}
use Rattle.tup_top.specs.Status.{log_of_todo, status_of_stop}
use Rattle.tup_top.specs.declared.status.Status.{Status}
use Rattle.tup_top.proofs.Foreseen.{found_out, stopped_undone, todo_cause}
use Rattle.tup_top.proofs.Reported.{comes_otherwise, hears_no_folder, unblamed}
use Rattle.tup_top.proofs.todo.todo.Goals as goal

pub returns-in-Ok-clause-tree : goal.returns-in-Ok-clause-tree
returns-in-Ok-clause-tree g c = λ tells. (c.todo_site.ensures.files tells).tree

pub returns-in-Ok-clause-known : goal.returns-in-Ok-clause-known
returns-in-Ok-clause-known g c = λ tells. (c.todo_site.ensures.files tells).known

pub returns-in-Ok-clause-found_out : goal.returns-in-Ok-clause-found_out
returns-in-Ok-clause-found_out g c = λ tells.
    found_out (IsKeptBySome g.S.Site c.args.site.now) (g.S.Site.world c.args.site.now) (g.S.Site.world c.todo_site.new.site) (g.S.Site.faults c.args.site.now) (g.S.Site.faults c.todo_site.new.site)
    (g.K.Sink.faults c.args.out.now) (g.K.Sink.faults c.tell_found.new.out) (Ok c.in-Ok.todo) c.tell_found.result.status c.tell_found.ensures.ends c.in-Ok.ensures.counted (c.in-Ok.ensures.unopened tells) tt
    (λ _. tt) (λ _. tt) (λ kept. c.todo_site.ensures.due tells kept.0 kept.1)

pub returns-in-Ok-clause-counted_cause : goal.returns-in-Ok-clause-counted_cause
returns-in-Ok-clause-counted_cause g c = λ runners.
    todo_cause (g.S.Site.faults c.args.site.now) (g.S.Site.faults c.todo_site.new.site) (g.K.Sink.faults c.args.out.now) (g.K.Sink.faults c.tell_found.new.out) (Ok c.in-Ok.todo) c.tell_found.result.status
    c.tell_found.ensures.ends c.tell_found.ensures.counted c.in-Ok.ensures.counted (λ stop is. absurd (cc is)) runners

pub returns-in-Ok-clause-printed : goal.returns-in-Ok-clause-printed
returns-in-Ok-clause-printed g c = λ shows.
    let reports = c.tell_found.ensures.reports in
    record {
      todo = Ok c.in-Ok.todo;
      lists = λ kept. c.in-Ok.ensures.lists kept.0 kept.1.0 kept.1.1;
      status = reports.status;
      heard = reports.heard;
      ends = reports.ends;
      prints = reports.prints shows;
    }

pub returns-in-Ok-clause-tells : goal.returns-in-Ok-clause-tells
returns-in-Ok-clause-tells g c =
    let reports = c.tell_found.ensures.reports in
    record {
      todo = Ok c.in-Ok.todo;
      lists = λ kept. c.in-Ok.ensures.lists kept.0 kept.1.0 kept.1.1;
      status = reports.status;
      heard = reports.heard;
      ends = reports.ends;
    }

pub returns-in-Ok-clause-blamed_reporter : goal.returns-in-Ok-clause-blamed_reporter
returns-in-Ok-clause-blamed_reporter g c = c.tell_found.ensures.blamed_reporter

pub returns-in-Err-clause-tree : goal.returns-in-Err-clause-tree
returns-in-Err-clause-tree g c = λ tells. (c.todo_site.ensures.files tells).tree

pub returns-in-Err-clause-known : goal.returns-in-Err-clause-known
returns-in-Err-clause-known g c = λ tells. (c.todo_site.ensures.files tells).known

pub returns-in-Err-clause-found_out : goal.returns-in-Err-clause-found_out
returns-in-Err-clause-found_out g c = λ tells.
    let before = g.K.Sink.faults c.args.out.now in
    let now = g.K.Sink.faults c.tell.new.out in
    let ends = subst (λ (s : Status). Ends before now s c.tell.result) c.status_of_stop.ensures c.tell.ensures.ends in
    found_out (IsKeptBySome g.S.Site c.args.site.now) (g.S.Site.world c.args.site.now) (g.S.Site.world c.todo_site.new.site) (g.S.Site.faults c.args.site.now) (g.S.Site.faults c.todo_site.new.site)
    before now (Err c.in-Err.stop) c.tell.result (inl ends) c.in-Err.ensures.counted (c.in-Err.ensures.unopened tells) c.in-Err.ensures.stops
    (λ kept. c.in-Err.ensures.blamed tells kept.0 kept.1) (λ kept. c.in-Err.ensures.full tells kept.0 kept.1) (λ kept. c.todo_site.ensures.due tells kept.0 kept.1)

pub returns-in-Err-clause-counted_cause : goal.returns-in-Err-clause-counted_cause
returns-in-Err-clause-counted_cause g c = λ runners.
    let before = g.K.Sink.faults c.args.out.now in
    let now = g.K.Sink.faults c.tell.new.out in
    let stop = c.in-Err.stop in
    let ends = subst (λ (s : Status). Ends before now s c.tell.result) c.status_of_stop.ensures c.tell.ensures.ends in
    todo_cause (g.S.Site.faults c.args.site.now) (g.S.Site.faults c.todo_site.new.site) before now (Err stop) c.tell.result (inl ends) (λ done. absurd (stopped_undone before now stop c.tell.result ends done))
    c.in-Err.ensures.counted (λ other is. let same : stop ≡ other = cc is in subst StopsSurvey same c.in-Err.ensures.stops) runners

-- where it was stopped no reporter was told anything

pub returns-in-Err-clause-printed : goal.returns-in-Err-clause-printed
returns-in-Err-clause-printed g c = λ shows.
    let before = g.K.Sink.faults c.args.out.now in
    let now = g.K.Sink.faults c.tell.new.out in
    let stop = c.in-Err.stop in
    record {
      todo = Err stop;
      lists = λ _. tt;
      status = status_of_stop stop;
      heard = hears_no_folder g.T.Reporter.told g.T.Reporter.faults c.args.tellers.now.items c.nobody.result.items c.nobody.ensures stop (status_of_stop stop);
      ends = subst (λ (s : Status). Ends before now s c.tell.result) c.status_of_stop.ensures c.tell.ensures.ends;
      prints = subst (λ (s : Status). Prints s (last_line s) before now (g.K.Sink.held c.args.out.now) (g.K.Sink.held c.tell.new.out) c.tell.result) c.status_of_stop.ensures (c.tell.ensures.prints shows);
    }

pub returns-in-Err-clause-tells : goal.returns-in-Err-clause-tells
returns-in-Err-clause-tells g c =
    let stop = c.in-Err.stop in
    record {
      todo = Err stop;
      lists = λ _. tt;
      status = status_of_stop stop;
      heard = hears_no_folder g.T.Reporter.told g.T.Reporter.faults c.args.tellers.now.items c.nobody.result.items c.nobody.ensures stop (status_of_stop stop);
      ends = subst (λ (s : Status). Ends (g.K.Sink.faults c.args.out.now) (g.K.Sink.faults c.tell.new.out) s c.tell.result) c.status_of_stop.ensures c.tell.ensures.ends;
    }

pub returns-in-Err-clause-blamed_reporter : goal.returns-in-Err-clause-blamed_reporter
returns-in-Err-clause-blamed_reporter g c = λ is _.
    let before = g.K.Sink.faults c.args.out.now in
    let now = g.K.Sink.faults c.tell.new.out in
    let stop = c.in-Err.stop in
    let ends = subst (λ (s : Status). Ends before now s c.tell.result) c.status_of_stop.ensures c.tell.ensures.ends in
    unblamed before now (status_of_stop stop) c.tell.result (comes_otherwise (log_of_todo (Err stop)) (Some stop)) ends is

pub returns-in-Ok-clause-closed : goal.returns-in-Ok-clause-closed
returns-in-Ok-clause-closed g c = λ tells closed. c.todo_site.ensures.closed tells closed

pub returns-in-Err-clause-closed : goal.returns-in-Err-clause-closed
returns-in-Err-clause-closed g c = λ tells closed. c.todo_site.ensures.closed tells closed
