use Rattle.std.proofs.Common.{Option}
use Rattle.std.proofs.lemmas.Option.{MatchOption-at_none}
use Rattle.tup_path.specs.Name.{Names}
use Rattle.tup_stamp.specs.declared.Stamp.{Stamp}
use Rattle.tup_why.specs.Cause.{GivesNone, IsCause}
use Rattle.tup_why.proofs.Finding.{each_more, each_of_all, each_of_none, is_here}
use Rattle.tup_why.proofs.cause.lead.Goals as goal

pub loop-path-init : goal.loop-path-init
loop-path-init c = each_of_none (λ (ask : Names × Option Stamp). GivesNone c.args.nodes.now c.args.plan.now c.args.rule.now ask.0)

pub lead_over-requires-clause-asked : goal.lead_over-requires-clause-asked
lead_over-requires-clause-asked c =
    let ask = c.loop-path-item.result in
    c.requires.asked ask.0 ask.1 (is_here c.args.asks.now c.loop-path.path-index ask ask c.loop-path-test.true c.loop-path-item.is)

pub loop-path-preserved : goal.loop-path-preserved
loop-path-preserved c =
    let ask = c.loop-path-item.result in
    let g = c.args.nodes.now in
    let plan = c.args.plan.now in
    let rule = c.args.rule.now in
    each_more (λ (one : Names × Option Stamp). GivesNone g plan rule one.0) c.args.asks.now c.loop-path.path-index ask ask c.loop-path-test.true c.loop-path-item.is c.loop-path.invariant
    (MatchOption-at_none (GivesNone g plan rule ask.0) (IsCause g plan c.args.number rule) c.in_default.is c.in_ok-cause.ensures.lead)

pub returns-clause-lead : goal.returns-clause-lead
returns-clause-lead c = λ path given h.
    each_of_all (λ (one : Names × Option Stamp). GivesNone c.args.nodes.now c.args.plan.now c.args.rule.now one.0) c.args.asks.now c.loop-path.path-index
    c.loop-path-test.false c.loop-path.invariant (path, given) h
