use Rattle.tup_core.proofs.Standing as lemma
use Rattle.tup_core.proofs.laws.asks_stand.Goals as goal

pub returns : goal.returns
returns c = λ plan files events one run. lemma.asks_stand plan files events one run
