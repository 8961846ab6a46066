use Rattle.tup_core.proofs.CleanRuns as lemma
use Rattle.tup_core.proofs.laws.settled_are_clean.Goals as goal

pub returns : goal.returns
returns c = record {
  done = λ next known kept tree plan files events planned run honest. lemma.done_clean next known kept tree plan files planned events run honest;
  clear = λ next known kept tree plan files events planned run honest. lemma.clear_clean next known kept tree plan files planned events run honest;
}
