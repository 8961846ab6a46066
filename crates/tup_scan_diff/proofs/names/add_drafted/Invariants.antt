use Rattle.std.proofs.Common.{take}
use Rattle.tup_path.specs.Order.{by_bytes}
use Rattle.tup_scan_diff.specs.Sets.{GrowsBy}
use Rattle.tup_scan_diff.specs.Names.{IsDraftedIn}
use Rattle.tup_scan_diff.proofs.names.add_drafted.Given as goal

abbrev pub invariant-loop-draft : goal.invariant-loop-draft
invariant-loop-draft l = GrowsBy by_bytes (IsDraftedIn (take l.draft-index l.drafts) l.dir) l.fn.names l.names
