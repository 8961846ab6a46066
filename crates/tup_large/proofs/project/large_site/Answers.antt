use Rattle.std.proofs.Common.{arith}
use Rattle.tup_large.proofs.Made.{made, refuses}
use Rattle.tup_large.proofs.project.large_site.Goals as goal

pub returns-clause-made : goal.returns-clause-made
returns-clause-made c =
    let new = c.new.ensures in
    made c.args.folders (omega (arith, c.requires)) c.in_ok-files.files.items c.in_ok-files.ensures c.new-never.result.items c.new-never.ensures.items c.new.result new.files new.store new.first new.changes new.faults new.fails new.left

pub returns-clause-refused : goal.returns-clause-refused
returns-clause-refused c =
    let new = c.new.ensures in
    refuses c.args.folders (omega (arith, c.requires)) c.in_ok-files.files.items c.in_ok-files.ensures c.new.result new.not_a_tree new.same_stamp new.no_image
