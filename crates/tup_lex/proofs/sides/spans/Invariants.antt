use Rattle.std.proofs.Common.{◌≡◌, map, take}
use Rattle.tup_lex.specs.Word.{span_of}
use Rattle.tup_lex.proofs.sides.spans.Given as goal

abbrev pub invariant-loop-word : goal.invariant-loop-word
invariant-loop-word l = l.all ≡ map span_of (take l.word-index l.words)
