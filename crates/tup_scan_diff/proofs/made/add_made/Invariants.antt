use Rattle.std.proofs.Common.{take}
use Rattle.tup_path.specs.Order.{by_names}
use Rattle.tup_graph.specs.Answers.{IsDrafted}
use Rattle.tup_scan_diff.specs.Sets.{GrowsBy}
use Rattle.tup_scan_diff.proofs.made.add_made.Given as goal

abbrev pub invariant-loop-draft : goal.invariant-loop-draft
invariant-loop-draft l = GrowsBy by_names (IsDrafted (take l.draft-index l.drafts)) l.fn.outputs l.outputs
