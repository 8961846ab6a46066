use Rattle.tup_rule_line.proofs.Folders.{below-ok}
use Rattle.tup_tupfile.proofs.file.below.Goals as goal

pub returns-in-Ok : goal.returns-in-Ok
returns-in-Ok c = below-ok c.args.dir.now c.args.name.now c.in-Ok.path c.in-Ok.ensures
