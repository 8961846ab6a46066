use Rattle.tup_lex.proofs.Cuts.{So}
use Rattle.tup_lex.proofs.word.words.Given as goal

abbrev pub invariant-loop-end : goal.invariant-loop-end
invariant-loop-end l = So l.at l.part l.all.items l.start l.end
