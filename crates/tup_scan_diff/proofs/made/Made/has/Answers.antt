use Rattle.tup_scan_diff.proofs.Making.{kept_decides}
use Rattle.tup_scan_diff.proofs.made.Made.has.Goals as goal

pub returns-in-Some : goal.returns-in-Some
returns-in-Some c = kept_decides c.args.nodes.now.readings c.args.self.now c.requires.made c.args.dir.now c.args.path.now c.in-Some.outputs.now c.contains.result c.in-Some.ensures c.contains.ensures
