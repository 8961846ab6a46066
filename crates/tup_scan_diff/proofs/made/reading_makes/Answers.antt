use Rattle.tup_scan_diff.proofs.Making.{read_decides, unread_decides}
use Rattle.tup_scan_diff.proofs.made.reading_makes.Goals as goal

pub returns-in-Some : goal.returns-in-Some
returns-in-Some c = read_decides c.args.nodes.now.readings c.args.dir.now c.args.path.now c.in-Some.reading.now c.as_slice.result.now c.make.result c.in-Some.ensures c.as_slice.ensures c.make.ensures

pub returns-in-None : goal.returns-in-None
returns-in-None c = unread_decides c.args.nodes.now.readings c.args.dir.now c.args.path.now c.in-None.ensures
