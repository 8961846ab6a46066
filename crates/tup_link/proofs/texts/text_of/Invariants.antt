use Rattle.std.proofs.Common.{◌≡◌, take}
use Rattle.tup_link.specs.Groups.{listed}
use Rattle.tup_link.specs.Linked as specs
use Rattle.tup_link.proofs.texts.text_of.Given as goal

abbrev pub invariant-loop-piece : goal.invariant-loop-piece
invariant-loop-piece l = l.text ≡ specs.text_of (listed l.groups) l.dir l.taken (take l.piece-index l.pieces)
