use Rattle.tup_refresh.proofs.Told.{halt_is}
use Rattle.tup_refresh.proofs.asking.AskingEnv.answer.Goals as goal

pub returns-in-Err-clause-stopped : goal.returns-in-Err-clause-stopped
returns-in-Err-clause-stopped c =
    let self = c.args.self.now in
    halt_is self.asked.sources.now self.asked.readings.now self.asked.reader.now self.fetched.now c.args.question.now c.in-Err.halt c.in-Err.ensures.halts
