use Rattle.tup_readers.proofs.Suspecting.{run_gone}
use Rattle.tup_readers.proofs.suspects.Suspects.acquit.Goals as goal

pub returns : goal.returns
returns c = run_gone c.args.nodes.now.seen c.args.nodes.now.runs c.args.number c.args.self.now.numbers c.remove.new.self.numbers c.requires c.remove.ensures
