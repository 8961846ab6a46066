use Rattle.std.proofs.Common.{◌≡◌, map, take}
use Rattle.tup_rule_line.specs.Glob.{bytes_at}
use Rattle.tup_rule_line.proofs.words.texts_at.Given as goal

abbrev pub invariant-loop-span : goal.invariant-loop-span
invariant-loop-span l = l.texts ≡ map (bytes_at l.text) (take l.span-index l.spans)
