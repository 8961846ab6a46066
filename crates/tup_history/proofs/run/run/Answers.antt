use denote.Param.Send.{sendable}
use Rattle.std.proofs.Common.{ℕ, IsTrue, List, length, map, refl, subst, sym}
use Rattle.std.proofs.Crossing.{crosses}
use Rattle.std.proofs.lemmas.List.{length-map}
use Rattle.tup_site.specs.Memory.{world_in}
use Rattle.tup_site.specs.contracts.memory_calls.MemSiteSite.TheImpl as memory
use Rattle.tup_site.proofs.memory.MemSite.TheSendSync as of_memory
use Rattle.tup_promise.specs.Kept.{IsKeptBySome, KeptHere}
use Rattle.tup_promise.specs.Needed.{OnlyWhatIsNeeded}
use Rattle.tup_top.specs.Order.{goes_on, order, used}
use Rattle.tup_top.specs.Printed.{SaysWhyOf, hears_none}
use Rattle.tup_top.specs.Promise.{ForUpdate, IsDoneOrMemory, Logs}
use Rattle.tup_top.specs.Success.{IsDoneOrNoRoom}
use Rattle.tup_top.specs.Truth.{IsTrueLog}
use Rattle.tup_top.proofs.Reported.{heard_none}
use Rattle.tup_history.specs.Run.{HasTrueLog}
use Rattle.tup_history.specs.Telling.{HasPrinted, HasRun, IsTrueThere}
use Rattle.tup_history.proofs.Finishing.{ends_well}
use Rattle.tup_history.proofs.Logged.{true_log}
use Rattle.tup_history.proofs.Telling.{has_run, prints_less, told_so}
use Rattle.tup_history.proofs.run.run.Goals as goal

pub tup-requires-send-S : goal.tup-requires-send-S
tup-requires-send-S g c κs lives = search (sendable, crosses, of_memory.the_send) depth 20

pub returns-clause-keeps : goal.returns-clause-keeps
returns-clause-keeps g c = record {
  opens_store = c.tup.ensures.opens_store refl;
  nothing_done = c.tup.ensures.nothing_done refl;
  none_begun = c.tup.ensures.nothing_run.begun;
  logged = subst (λ (many : ℕ). ForUpdate (order c.args.words.now) c.tup.result.status (Logs (used (order c.args.words.now) many) (goes_on (order c.args.words.now)) c.tup.result.ran))
      (sym (length-map c.args.crew.items g.R.Runner.faults)) c.tup.ensures.logged;
  spares = c.tup.ensures.spares refl;
  limits = c.tup.ensures.limits refl;
  plain_cause = c.tup.ensures.plain_cause;
  begins = c.tup.ensures.begins refl;
  initializes = c.tup.ensures.initializes refl;
  opens = c.tup.ensures.opens refl;
  compared = λ means. c.tup.ensures.compared refl means;
  compares = λ means. c.tup.ensures.compares refl means;
}

pub returns-clause-runs : goal.returns-clause-runs
returns-clause-runs g c = λ before now was is.
    let wanted = order c.args.words.now in
    let crew = c.args.crew.items in
    let told = told_so g.R.Runner.tells_ran (map g.R.Runner.ran crew) before was in
    let left = told_so g.R.Runner.tells_ran (map g.R.Runner.ran c.tup.result.crew.items) now is in
    subst (λ (many : ℕ). HasRun g.R.Runner.tells g.R.Runner.next wanted many (world_in c.args.site) before now c.tup.result.status c.tup.result.ran) (sym (length-map crew g.R.Runner.faults))
    (has_run g.R.Runner.ran crew c.tup.result.crew.items g.R.Runner.tells g.R.Runner.next wanted (length crew) (world_in c.args.site) before now c.tup.result.status c.tup.result.ran told.1 left.1 (c.tup.ensures.ran told.0)
    (λ means. c.tup.ensures.compared_ran refl means told.0) c.tup.ensures.others c.tup.ensures.nothing_run)

pub returns-clause-prints : goal.returns-clause-prints
returns-clause-prints g c = λ held holds was is.
    let wanted = order c.args.words.now in
    let crew = c.args.crew.items in
    let site = c.args.site in
    let next = g.R.Runner.next in
    let told = told_so g.K.Sink.tells (g.K.Sink.held c.args.out.now) held was in
    let left = told_so g.K.Sink.tells (g.K.Sink.held c.tup.new.out) holds is in
    let before = g.K.Sink.faults c.args.out.now in
    let now = g.K.Sink.faults c.tup.new.out in
    let status = c.tup.result.status in
    let ran = c.tup.result.ran in
    subst (λ (many : ℕ). HasPrinted g.R.Runner.tells next wanted many site c.tup.result.site before now held holds status ran) (sym (length-map crew g.R.Runner.faults))
    (subst (λ (l : List ℕ). HasPrinted g.R.Runner.tells next wanted (length crew) site c.tup.result.site before now l holds status ran) told.1
    (subst (λ (l : List ℕ). HasPrinted g.R.Runner.tells next wanted (length crew) site c.tup.result.site before now (g.K.Sink.held c.args.out.now) l status ran) left.1
    (prints_less (used wanted (length crew)) memory.ghosts.tells g.R.Runner.tells (IsTrue memory.ghosts.tells × IsKeptBySome memory.ghosts site) (SaysWhyOf memory.ghosts site) (IsTrueLog memory.ghosts g.R.Runner site (world_in c.tup.result.site))
    (IsTrueThere g.R.Runner.tells next site (world_in c.tup.result.site)) _ hears_none
    (λ log stopped so.
    record {
      bads = λ means kept. so.bads (record { tells = refl; means = means; kept = kept });
      first = λ means kept. so.first (record { tells = refl; means = means; kept = kept });
      left = λ means kept. so.left (record { tells = refl; means = means; kept = kept });
      did = λ some. so.did refl some;
    })
    (heard_none _ _ _ _ _ c.new-tellers.ensures.items) wanted next (world_in site) (world_in c.tup.result.site) ran before now (g.K.Sink.held c.args.out.now)
    (g.K.Sink.held c.tup.new.out) status (c.tup.ensures.printed told.0))))

pub returns-clause-leaves : goal.returns-clause-leaves
returns-clause-leaves g c = record {
  closed = c.tup.ensures.closed refl;
  quiet = c.tup.ensures.quiet refl;
  lasts = c.tup.ensures.lasts refl;
  known = c.tup.ensures.known refl;
  found_out = c.tup.ensures.found_out refl;
}

pub returns-clause-finishes : goal.returns-clause-finishes
returns-clause-finishes g c = record {
  success = λ means kept updates can fine _.
      let tells = c.tup.ensures.tells updates in
      let here : KeptHere memory.ghosts g.R.Runner c.args.site = record { tells = refl; means = means; kept = kept } in
      ends_well _ _ _ _ _ c.new-tellers.ensures.items IsDoneOrNoRoom tt tells.log _ tells.status c.tup.result.status _ _ tells.heard tells.ends (λ all_told. c.tup.ensures.success here updates can fine all_told);
  lists = λ some finds can fine _.
      let tells = c.tup.ensures.tells_todo finds in
      ends_well _ _ _ _ _ c.new-tellers.ensures.items IsDoneOrMemory tt _ _ tells.status c.tup.result.status _ _ tells.heard tells.ends (λ all_told. c.tup.ensures.lists refl some finds can fine all_told);
}

pub returns-clause-updates : goal.returns-clause-updates
returns-clause-updates g c = λ means kept.
    let here : KeptHere memory.ghosts g.R.Runner c.args.site = record { tells = refl; means = means; kept = kept } in
    let wanted = order c.args.words.now in
    let old = world_in c.args.site in
    let new = world_in c.tup.result.site in
    record {
      files = c.tup.ensures.exactly_the_files here;
      needed = subst (λ (many : ℕ). ForUpdate wanted c.tup.result.status (OnlyWhatIsNeeded g.R.Runner.next (goes_on wanted) (used wanted many) old new c.tup.result.ran))
          (sym (length-map c.args.crew.items g.R.Runner.faults)) (c.tup.ensures.only_what_is_needed here);
      tells = λ updates.
          subst (λ (many : ℕ). HasTrueLog g.R.Runner.next (used wanted many) (goes_on wanted) old new c.tup.result.status c.tup.result.ran) (sym (length-map c.args.crew.items g.R.Runner.faults))
          (true_log g.R.Runner _ _ _ _ _ c.new-tellers.ensures.items c.args.site (used wanted (length c.args.crew.items)) _ (goes_on wanted) new c.tup.result.ran (g.K.Sink.faults c.args.out.now) (g.K.Sink.faults c.tup.new.out)
          c.tup.result.status here (c.tup.ensures.tells updates));
      blamed = c.tup.ensures.blamed here;
      full = c.tup.ensures.full here;
      settled = c.tup.ensures.settled here;
      states = c.tup.ensures.states here;
      users = c.tup.ensures.users refl (g.R.Runner.next, kept);
      crash = λ updates. (c.tup.ensures.sources_and_crashes here updates).kept;
      kept = c.tup.ensures.kept here;
    }
