use Rattle.std.proofs.Common.{sym, ap, ◌∙◌}
use Rattle.std.proofs.lemmas.Result.{IfOk-weaker}
use Rattle.tup_graph.specs.Graph.{GraphState}
use Rattle.tup_board.proofs.Answering.{access_seen, goes_there, rules_here, runs_here}
use Rattle.tup_board.proofs.board.Board.access.Goals as goal

pub access_by-requires-clause-runs : goal.access_by-requires-clause-runs
access_by-requires-clause-runs g c = runs_here g.S.Site g.R.Runner _ _ _ _ _ _ _ c.self.invariant.0 c.self.invariant.1 c.self.view_is c.args.seat
    (goes_there g.S.Site g.R.Runner _ _ _ _ _ _ _ c.self.invariant.0 c.self.invariant.1 c.self.view_is c.args.seat c.requires.runs).it

pub access_by-requires-clause-rules : goal.access_by-requires-clause-rules
access_by-requires-clause-rules g c =
    ap (λ (g : GraphState). g.rules) c.indexed.ensures.value ∙ rules_here g.S.Site g.R.Runner _ _ _ _ _ _ _ c.self.invariant.0 c.self.invariant.1 c.self.view_is c.in-None.is c.args.plan.now c.requires.plan

pub access-requires-clause-seat : goal.access-requires-clause-seat
access-requires-clause-seat g c = runs_here g.S.Site g.R.Runner _ _ _ _ _ _ _ c.self.invariant.0 c.self.invariant.1 c.self.view_is c.args.seat
    (goes_there g.S.Site g.R.Runner _ _ _ _ _ _ _ c.self.invariant.0 c.self.invariant.1 c.self.view_is c.args.seat c.requires.runs).it

pub returns-in-None-clause-given : goal.returns-in-None-clause-given
returns-in-None-clause-given g c =
    IfOk-weaker c.access_by.result _ _
    (λ given told. access_seen g.S.Site g.R.Runner _ _ _ _ _ _ _ c.self.invariant.0 c.self.invariant.1 c.self.view_is c.args.seat c.args.plan.now.rules c.args.text.now given told) c.access_by.ensures

pub returns-in-Some-clause-given : goal.returns-in-Some-clause-given
returns-in-Some-clause-given g c =
    IfOk-weaker c.access.result _ _
    (λ given told. access_seen g.S.Site g.R.Runner _ _ _ _ _ _ _ c.self.invariant.0 c.self.invariant.1 c.self.view_is c.args.seat c.args.plan.now.rules c.args.text.now given told) c.access.ensures

pub returns-in-None-clause-goes : goal.returns-in-None-clause-goes
returns-in-None-clause-goes g c = goes_there g.S.Site g.R.Runner _ _ _ _ _ _ _ c.self.invariant.0 c.self.invariant.1 c.self.view_is c.args.seat c.requires.runs

pub returns-in-Some-clause-goes : goal.returns-in-Some-clause-goes
returns-in-Some-clause-goes g c = goes_there g.S.Site g.R.Runner _ _ _ _ _ _ _ c.self.invariant.0 c.self.invariant.1 c.self.view_is c.args.seat c.requires.runs
