use Rattle.std.proofs.Common.{List, Option, subst, sym}
use Rattle.std.specs.Prelude.{Contains}
use Rattle.std.proofs.lemmas.Option.{MatchOption-at_none, MatchOption-at_some}
use Rattle.tup_path.specs.Name.{Names}
use Rattle.tup_stamp.specs.declared.Stamp.{Stamp}
use Rattle.tup_graph.specs.Kept.{HasSeenStamps}
use Rattle.tup_why.specs.Cause.{GiveNone, IsCause}
use Rattle.tup_why.specs.Reason.{HasOther}
use Rattle.tup_why.proofs.Causes.{asked_by, unfinished}
use Rattle.tup_why.proofs.cause.cause_of.Goals as goal

pub lead-requires-clause-asked : goal.lead-requires-clause-asked
lead-requires-clause-asked c = λ path given h.
    asked_by c.args.nodes.now c.args.plan.now c.args.number c.in-Some.run'.now (sym c.in-Some.ensures) path given
    (subst (λ (l : List (Names × Option Stamp)). Contains l (path, given)) c.as_slice.ensures h)

pub returns-in-Some-2-clause-cause : goal.returns-in-Some-2-clause-cause
returns-in-Some-2-clause-cause c =
    let run = c.in-Some.run'.now in (
      run,
      sym c.in-Some.ensures,
      MatchOption-at_some (HasSeenStamps c.args.nodes.now c.args.rule.now run) (HasOther c.args.nodes.now c.args.rule.now run) c.in-Some-2.path c.in-Some-2.is c.in_ok-path.ensures.other,
    )

pub returns-in-None-clause-cause : goal.returns-in-None-clause-cause
returns-in-None-clause-cause c =
    let g = c.args.nodes.now in
    let plan = c.args.plan.now in
    let rule = c.args.rule.now in
    let run = c.in-Some.run'.now in
    let same = MatchOption-at_none (HasSeenStamps g rule run) (HasOther g rule run) c.in_default-2.is c.in_ok-path.ensures.other in
    let none = MatchOption-at_none (GiveNone g plan rule c.as_slice.result.now) (IsCause g plan c.args.number rule) c.in-None.is c.in_ok-cause.ensures.lead in
    unfinished g plan c.args.number rule run (sym c.in-Some.ensures) same (subst (GiveNone g plan rule) c.as_slice.ensures none)
