use Rattle.tup_core.proofs.NeverStuck as lemma
use Rattle.tup_core.proofs.laws.never_stuck.Goals as goal

pub returns : goal.returns
returns c = λ plan files events premise run. lemma.never_stuck plan files events premise.0 premise.1 run
