use Rattle.std.proofs.Common.{◌≡◌, ◌++◌, subst}
use Rattle.tup_schedule.specs.declared.claimed.Claimed.{Claimed}
use Rattle.tup_board.specs.Entries.{claim_entries}
use Rattle.tup_workers.proofs.Working.{begins, goes_further, starts, stops_there}
use Rattle.tup_workers.proofs.claiming.work.Goals as goal

pub loop-init : goal.loop-init
loop-init g c = begins (g.L.Shared.belongs c.args.lock.now) g.L.Shared.number_of g.L.Shared.plan_of g.L.Shared.entries g.L.Runner.Runner c.args.plan.now c.args.hand.now c.requires

pub run-requires-clause-starts : goal.run-requires-clause-starts
run-requires-clause-starts g c κs lives =
    let mid = c.loop.hand in
    let adds = subst (λ (r : Claimed). g.L.Shared.entries c.claim.new.seat ≡ g.L.Shared.entries mid.seat ++ claim_entries (g.L.Shared.number_of mid.seat) r) c.in-Rule.is c.claim.ensures.adds in
    starts (g.L.Shared.belongs c.args.lock.now) g.L.Shared.number_of g.L.Shared.plan_of g.L.Shared.entries g.L.Runner.Runner c.args.plan.now (g.L.Shared.entries mid.seat) (g.L.Shared.entries c.claim.new.seat) (g.L.Shared.number_of mid.seat) c.in-Rule.rule c.loop.invariant.free adds
    (c.claim.ensures.rule c.in-Rule.rule c.in-Rule.is)

pub loop-preserved-in-Rule : goal.loop-preserved-in-Rule
loop-preserved-in-Rule g c =
    let mid = c.loop.hand in
    let adds = subst (λ (r : Claimed). g.L.Shared.entries c.claim.new.seat ≡ g.L.Shared.entries mid.seat ++ claim_entries (g.L.Shared.number_of mid.seat) r) c.in-Rule.is c.claim.ensures.adds in
    goes_further (g.L.Shared.belongs c.args.lock.now) g.L.Shared.number_of g.L.Shared.plan_of g.L.Shared.entries g.L.Runner.Runner c.args.plan.now c.args.hand.now mid c.run.new.hand c.claim.new.seat c.in-Rule.rule c.loop.invariant adds
    (c.claim.ensures.rule c.in-Rule.rule c.in-Rule.is) c.claim.ensures.same.0 c.run.ensures.at c.run.result c.run.ensures.runs c.if-not-run.false

pub returns-then-not-run : goal.returns-then-not-run
returns-then-not-run g c =
    let mid = c.loop.hand in
    let adds = subst (λ (r : Claimed). g.L.Shared.entries c.claim.new.seat ≡ g.L.Shared.entries mid.seat ++ claim_entries (g.L.Shared.number_of mid.seat) r) c.in-Rule.is c.claim.ensures.adds in
    stops_there (g.L.Shared.belongs c.args.lock.now) g.L.Shared.number_of g.L.Shared.plan_of g.L.Shared.entries g.L.Runner.Runner c.args.plan.now c.args.hand.now mid c.run.new.hand c.claim.new.seat c.in-Rule.rule c.loop.invariant adds
    (c.claim.ensures.rule c.in-Rule.rule c.in-Rule.is) c.claim.ensures.same.0 c.run.ensures.at c.run.result c.run.ensures.runs c.if-not-run.true
