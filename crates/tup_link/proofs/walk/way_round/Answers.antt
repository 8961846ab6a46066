use Rattle.std.proofs.Common.{arith, inl, inr, ap, ◌∙◌}
use Rattle.std.proofs.lemmas.Bool.{cases_eq}
use Rattle.std.proofs.lemmas.Option.{MatchOption-at_none}
use Rattle.tup_link.specs.Walk.{state, IsOver, LeadsBack}
use Rattle.tup_link.proofs.Going.{begun, none_left}
use Rattle.tup_link.proofs.walk.way_round.Goals as goal

pub loop-from-init : goal.loop-from-init
loop-from-init c =
    let e = c.in_ok-walk.ensures in
    record {
      walk = begun c.args.graph.now c.in_ok-walk.walk e.states e.passed e.way;
      way = e.way;
      done = λ at less. absurd (omega arith);
    }

pub loop-from-preserved : goal.loop-from-preserved
loop-from-preserved c =
    let over = MatchOption-at_none (IsOver c.go.new.self c.loop-from.from) (LeadsBack c.args.graph.now c.go.new.self) c.in_default.is c.in_ok-back.ensures.over in
    record {
      walk = c.in_ok-back.ensures.on.walk;
      way = over.0;
      done = λ at less. elim (cases_eq at c.loop-from.from) [
        | inl same ↦ ap (state c.go.new.self) same ∙ over.1
        | inr apart ↦ c.in_ok-back.ensures.on.done at (c.loop-from.invariant.done at (omega arith))
      ];
    }

pub returns : goal.returns
returns c = none_left c.args.graph.now c.loop-from.walk c.loop-from.invariant.walk (λ at less. c.loop-from.invariant.done at (let end = c.loop-from-test.false in omega arith))
