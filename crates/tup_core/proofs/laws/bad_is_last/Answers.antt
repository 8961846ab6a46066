use Rattle.tup_core.proofs.BadLast as lemma
use Rattle.tup_core.proofs.laws.bad_is_last.Goals as goal

pub returns : goal.returns
returns c = λ plan files events seat run own off at given is. lemma.bad_is_last plan files events seat run own off at given is
