use Rattle.std.proofs.Common.{[]}
use Rattle.tup_tupfile.specs.Reading.{reading}
use Rattle.tup_query.proofs.Runs.{ran_outcome}
use Rattle.tup_tupfile.proofs.laws.logs_tell_readings.Goals as goal

pub returns : goal.returns
returns c = λ log end answers ran says. ran_outcome [] log (reading c.args.dir.now) end answers ran says
