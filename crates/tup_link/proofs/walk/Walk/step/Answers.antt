use Rattle.std.proofs.Common.{sym, arith, ◌∙◌}
use Rattle.tup_link.proofs.Walking.{entered, left, past, at_end}
use Rattle.tup_link.proofs.Steps.{fewer-entered, fewer-left, fewer-past}
use Rattle.tup_link.proofs.Going.{end_within, end_in_graph, end_in_passed, next_in_states, read_state, all_passed, leads_at, led_within, led_on, leads_back}
use Rattle.tup_link.proofs.walk.Walk.step.Goals as goal

pub next-requires-clause-graph : goal.next-requires-clause-graph
next-requires-clause-graph c = end_in_graph c.args.graph.now c.args.self.now c.args.at c.requires.walk c.requires.at

pub next-requires-clause-passed : goal.next-requires-clause-passed
next-requires-clause-passed c = end_in_passed c.args.graph.now c.args.self.now c.args.at c.requires.walk c.requires.at

pub leave-requires-clause-state : goal.leave-requires-clause-state
leave-requires-clause-state c = end_within c.args.graph.now c.args.self.now c.args.at c.requires.walk c.requires.at

pub returns-in_default-clause-on : goal.returns-in_default-clause-on
returns-in_default-clause-on c =
    left c.args.graph.now c.args.self.now c.leave.new.self c.args.at c.requires.walk c.leave.ensures
    (end_within c.args.graph.now c.args.self.now c.args.at c.requires.walk c.requires.at)
    (all_passed c.args.graph.now c.args.self.now c.args.at c.requires.walk (sym c.in_default.ensures.next))

pub returns-in_default-clause-back : goal.returns-in_default-clause-back
returns-in_default-clause-back c =
    fewer-left c.args.graph.now c.args.self.now c.leave.new.self c.args.at c.leave.ensures
    (end_within c.args.graph.now c.args.self.now c.args.at c.requires.walk c.requires.at)
    (at_end c.args.graph.now c.args.self.now c.args.at c.requires.walk c.requires.at)

pub index-requires : goal.index-requires
index-requires c =
    let less = next_in_states c.args.graph.now c.args.self.now c.args.at _ c.in-Some.next c.requires.within c.requires.walk (sym c.in-Some.ensures.next) in
    omega (arith, less, c.args.self.now.states.ok.0)

pub enter-requires : goal.enter-requires
enter-requires c = next_in_states c.args.graph.now c.args.self.now c.args.at _ c.in-Some.next c.requires.within c.requires.walk (sym c.in-Some.ensures.next)

pub returns-in-OnWay-clause-back : goal.returns-in-OnWay-clause-back
returns-in-OnWay-clause-back c =
    let here = sym c.in-Some.ensures.next in
    let less = next_in_states c.args.graph.now c.args.self.now c.args.at _ c.in-Some.next c.requires.within c.requires.walk here in
    leads_back c.args.graph.now c.args.self.now c.args.at c.in-Some.next c.requires.at (leads_at c.args.graph.now c.args.at _ c.in-Some.next here)
    (read_state c.args.self.now c.in-Some.next c.index.result.now less c.index.ensures ∙ c.in-OnWay.is)

pub pass-requires-clause-at : goal.pass-requires-clause-at
pass-requires-clause-at c = end_in_passed c.args.graph.now c.args.self.now c.args.at c.requires.walk c.requires.at

pub returns-in_ok-enter-in-New-clause-on : goal.returns-in_ok-enter-in-New-clause-on
returns-in_ok-enter-in-New-clause-on c =
    let here = sym c.in-Some.ensures.next in
    let less = next_in_states c.args.graph.now c.args.self.now c.args.at _ c.in-Some.next c.requires.within c.requires.walk here in
    entered c.args.graph.now c.args.self.now c.enter.new.self c.in-Some.next c.requires.walk c.in_ok-enter-in-New.ensures less
    (read_state c.args.self.now c.in-Some.next c.index.result.now less c.index.ensures ∙ c.in-New.is)
    (led_on c.args.graph.now c.args.self.now c.args.at c.in-Some.next c.requires.at (leads_at c.args.graph.now c.args.at _ c.in-Some.next here))

pub returns-in_ok-enter-in-New-clause-back : goal.returns-in_ok-enter-in-New-clause-back
returns-in_ok-enter-in-New-clause-back c =
    let here = sym c.in-Some.ensures.next in
    let less = next_in_states c.args.graph.now c.args.self.now c.args.at _ c.in-Some.next c.requires.within c.requires.walk here in
    fewer-entered c.args.graph.now c.args.self.now c.enter.new.self c.in-Some.next c.in_ok-enter-in-New.ensures less
    (read_state c.args.self.now c.in-Some.next c.index.result.now less c.index.ensures ∙ c.in-New.is)

pub returns-in-Done-clause-on : goal.returns-in-Done-clause-on
returns-in-Done-clause-on c =
    let less = next_in_states c.args.graph.now c.args.self.now c.args.at _ c.in-Some.next c.requires.within c.requires.walk (sym c.in-Some.ensures.next) in
    past c.args.graph.now c.args.self.now c.pass.new.self c.args.at c.in-Some.next c.requires.walk c.pass.ensures (end_in_passed c.args.graph.now c.args.self.now c.args.at c.requires.walk c.requires.at)
    (sym c.in-Some.ensures.next)
    (read_state c.args.self.now c.in-Some.next c.index.result.now less c.index.ensures ∙ c.in-Done.is)

pub returns-in-Done-clause-back : goal.returns-in-Done-clause-back
returns-in-Done-clause-back c =
    fewer-past c.args.graph.now c.args.self.now c.pass.new.self c.args.at c.pass.ensures (end_in_graph c.args.graph.now c.args.self.now c.args.at c.requires.walk c.requires.at)
    (end_in_passed c.args.graph.now c.args.self.now c.args.at c.requires.walk c.requires.at)
    (led_within c.args.graph.now c.args.at _ c.in-Some.next (sym c.in-Some.ensures.next))
