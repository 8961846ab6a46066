use Rattle.std.proofs.Common.{◌≡◌, ◌++◌, map, take}
use Rattle.tup_link.specs.Placed.{placed_in}
use Rattle.tup_link.proofs.placed.add.Given as goal

abbrev pub invariant-loop-draft : goal.invariant-loop-draft
invariant-loop-draft l = l.all.items ≡ l.fn.all.items ++ map (placed_in l.dir) (take l.draft-index l.drafts)
