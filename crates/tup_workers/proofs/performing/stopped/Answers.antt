use Rattle.std.proofs.Common.{refl}
use Rattle.tup_workers.proofs.Ended.{stops_by_one}
use Rattle.tup_workers.proofs.performing.stopped.Goals as goal

pub returns-clause-stops : goal.returns-clause-stops
returns-clause-stops g c =
    let adds = c.stop.ensures.adds in
    (refl, stops_by_one (g.L.Shared.number_of c.args.seat.now) c.args.cause (g.L.Shared.entries c.args.seat.now) (g.L.Shared.entries c.stop.new.seat) c.requires.runs.0 c.requires.runs.1 adds.0 adds.1 adds.2)
