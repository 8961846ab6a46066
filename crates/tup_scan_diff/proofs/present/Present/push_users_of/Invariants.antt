use Rattle.std.proofs.Common.{take}
use Rattle.tup_scan_diff.specs.Touched.{FindsRoots, UsesOneOf}
use Rattle.tup_scan_diff.proofs.present.Present.push_users_of.Given as goal

abbrev pub invariant-loop-edit : goal.invariant-loop-edit
invariant-loop-edit l = FindsRoots l.self (UsesOneOf l.graph (take l.edit-index l.edits)) l.fn.roots l.roots
