use Rattle.std.proofs.Common.{◌≡◌, ◌++◌, drop}
use Rattle.tup_rule_line.specs.Flagged.{text_of}
use Rattle.tup_rule_line.proofs.flagged.text_of.Given as goal

abbrev pub invariant-loop-piece : goal.invariant-loop-piece
invariant-loop-piece l = l.text ++ text_of (drop l.piece-index l.pieces) ≡ text_of l.pieces
