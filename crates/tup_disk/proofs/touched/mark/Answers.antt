use Rattle.tup_disk.proofs.Marked.{marked_still}
use Rattle.tup_disk.proofs.touched.mark.Goals as goal

pub returns-clause-keeps : goal.returns-clause-keeps
returns-clause-keeps c = marked_still c.in_ok-clone.field-0 c.args.marked.now c.insert.new.self c.insert.result c.insert.ensures.updates c.insert.ensures.err
