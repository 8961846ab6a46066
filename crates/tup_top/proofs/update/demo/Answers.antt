use denote.Param.Send.{sendable}
use Rattle.std.proofs.Common.{ℕ, false, refl, subst}
use Rattle.std.proofs.Crossing.{crosses}
use Rattle.tup_site.specs.World.{World}
use Rattle.tup_demo.specs.Steady.{world_in}
use Rattle.tup_demo.specs.contracts.steady_calls.SteadySiteSite.TheImpl as steady
use Rattle.tup_demo.proofs.steady.SteadySite.TheSendSync as of_site
use Rattle.tup_mini.specs.Means.{mini_next}
use Rattle.tup_mini.specs.contracts.mini.MiniRunner.TheImpl as mini
use Rattle.tup_mini.proofs.mini.Mini.TheSendSync as of_mini
use Rattle.tup_promise.specs.Blamed.{IsToBlame}
use Rattle.tup_promise.specs.Finished.{ExactlyTheFiles}
use Rattle.tup_promise.specs.Kept.{KeptHere}
use Rattle.tup_promise.specs.Needed.{OnlyWhatIsNeeded}
use Rattle.tup_promise.specs.States.{States}
use Rattle.tup_top.specs.Demo.{demo_world}
use Rattle.tup_top.specs.Printed.{SaysWhyOf}
use Rattle.tup_top.specs.Promise.{OpensStore}
use Rattle.tup_top.specs.Status.{IfCame}
use Rattle.tup_top.specs.Truth.{IsTrueLog, IsTrueOver}
use Rattle.tup_top.proofs.Demo.{demo_cause, demo_counts}
use Rattle.tup_top.proofs.Reported.{unheard_prints}
use Rattle.tup_top.proofs.Shown.{unshown_cause, unshown_prints}
use Rattle.tup_top.proofs.update.demo.Goals as goal

-- site and runner may go to threads

pub update-requires-send-S : goal.update-requires-send-S
update-requires-send-S g c κs lives = search (sendable, crosses, of_site.the_send) depth 20

pub update-requires-send-R : goal.update-requires-send-R
update-requires-send-R g c κs lives = search (sendable, crosses, of_mini.the_send) depth 20

pub returns-in-Ok : goal.returns-in-Ok
returns-in-Ok g c =
    let status = c.update.result.status in
    let ran = c.update.result.ran in
    let site = c.in-Ok.site in
    let left = world_in c.update.result.site in
    let alone = c.in-Ok.ensures.alone in
    let same = c.in-Ok.ensures.holds in
    let before = g.K.Sink.faults c.args.out.now in
    let now = g.K.Sink.faults c.update.new.out in
    let nobody = c.nobody-tellers.ensures in
    let here : KeptHere steady.ghosts mini.ghosts site = record { tells = refl; means = refl; kept = c.in-Ok.ensures.kept } in
    record {
      cause = demo_cause c.demo_asks.ensures c.demo_builds.ensures left ran before now status
          (subst (λ (w : World). IfCame status (OpensStore w left ran)) same (c.update.ensures.opens_store refl))
          (subst (λ (w : World). IfCame status (IsToBlame mini_next w left ran)) same (c.update.ensures.blamed here))
          (demo_counts c.in-Ok.crew.items c.update.result.crew.items before now status alone c.update.ensures.crew c.update.ensures.counted_cause)
          (λ told. c.update.ensures.blamed_reporter told (c.update.ensures.nobody nobody));
      printed = λ shows. (
        ran,
        left,
        λ _. record {
          files = subst (λ (w : World). IfCame status (ExactlyTheFiles mini_next w left)) same (c.update.ensures.exactly_the_files here);
          needed = subst (λ (w : World). IfCame status (OnlyWhatIsNeeded mini_next false 1 w left ran)) same
              (subst (λ (n : ℕ). IfCame status (OnlyWhatIsNeeded mini_next false n (world_in site) left ran)) alone (c.update.ensures.only_what_is_needed here));
          states = subst (λ (w : World). States mini_next w left) same (c.update.ensures.states here);
        },
        unheard_prints _ _ _ _ _ nobody _ alone (SaysWhyOf steady.ghosts site false) (IsTrueLog steady.ghosts mini.ghosts site left) (IsTrueOver mini_next demo_world left) (world_in site) left ran before now (g.K.Sink.held c.args.out.now) (g.K.Sink.held c.update.new.out) status
            (λ log chains said. said.0.1)
            (λ log stopped so. subst (λ (w : World). IsTrueOver mini_next w left log stopped) same (record { bads = so.bads here; first = so.first here; left = so.left here; did = so.did refl (mini_next, here.kept) }))
            same (c.update.ensures.printed shows),
      );
    }

pub returns : goal.returns
returns g c =
    let before = g.K.Sink.faults c.args.out.now in
    let now = g.K.Sink.faults c.tell.new.out in
    let fault = c.in-Err.fault in
    record {
      cause = unshown_cause before now fault _ c.tell.result c.in-Err.ensures.memory c.status_of_begun.ensures c.tell.ensures.ends;
      printed = λ shows. unshown_prints before now fault _ c.tell.result c.in-Err.ensures.memory c.status_of_begun.ensures c.tell.ensures.ends _ _ (c.tell.ensures.prints shows);
    }
