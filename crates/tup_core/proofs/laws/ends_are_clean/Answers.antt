use Rattle.tup_core.proofs.CleanRuns as lemma
use Rattle.tup_core.proofs.laws.ends_are_clean.Goals as goal

pub returns : goal.returns
returns c = record {
  ends = λ next known kept tree plan files events planned run honest. lemma.ends_clean next known kept tree plan files planned events run honest;
  bads = λ next known kept tree plan files events planned run honest. lemma.bad_clean next known kept tree plan files planned events run honest;
}
