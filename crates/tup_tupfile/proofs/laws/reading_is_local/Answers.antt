use Rattle.tup_tupfile.specs.Reading.{reading}
use Rattle.tup_query.proofs.Local.{local}
use Rattle.tup_tupfile.proofs.laws.reading_is_local.Goals as goal

pub returns : goal.returns
returns c = λ one other alike. local (reading c.args.dir.now) one other alike
