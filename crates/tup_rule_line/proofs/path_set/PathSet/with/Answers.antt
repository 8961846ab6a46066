use Rattle.tup_rule_line.proofs.Below.{above_more, closed_above}
use Rattle.tup_rule_line.proofs.path_set.PathSet.with.Goals as goal

pub add_folders-requires : goal.add_folders-requires
add_folders-requires c = closed_above c.self.inside.folders.keys c.self.inside.paths.keys c.self.invariant

pub invariant_of-result : goal.invariant_of-result
invariant_of-result c =
    let set = c.self.inside in
    rw c.in_ok-insert.ensures.keys (above_more set.folders.keys c.add_folders.new.folders.keys set.paths.keys c.args.path c.self.invariant c.in_ok-add_folders.ensures)
