use Rattle.tup_demo.proofs.Reading.{come_to}
use Rattle.tup_demo.proofs.build.demo_asks.Goals as goal

pub returns : goal.returns
returns c = come_to
