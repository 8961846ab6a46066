use Rattle.std.proofs.Common.{length, get_or, take}
use Rattle.tup_core.specs.Links.{HasMakersIn}
use Rattle.tup_core.proofs.links.makers_of.Given as goal

-- it stands for a loop over all rules up to the next of these numbers
abbrev pub invariant-loop-number : goal.invariant-loop-number
invariant-loop-number l = HasMakersIn l.made (take (get_or l.near l.number-index (length l.rules)) l.rules) l.makers
