use Rattle.tup_readings.proofs.Stops.{stop_is}
use Rattle.tup_readings.proofs.asked.AskedEnv.answer.Goals as goal

pub returns-in-Err-clause-stopped : goal.returns-in-Err-clause-stopped
returns-in-Err-clause-stopped c =
    let self = c.args.self.now in
    stop_is self.sources.now self.readings.now self.reader.now c.args.question.now c.in-Err.stop c.in-Err.ensures.waits
