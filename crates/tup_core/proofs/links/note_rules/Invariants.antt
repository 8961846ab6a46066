use Rattle.std.proofs.Common.{length, get_or}
use Rattle.tup_core.specs.Links.{AreListed}
use Rattle.tup_core.proofs.links.note_rules.Given as goal

-- it stands for a loop over all rules up to the next of these numbers
abbrev pub invariant-loop-number : goal.invariant-loop-number
invariant-loop-number l = AreListed l.rules l.makers (get_or l.near l.number-index (length l.rules)) l.lists
