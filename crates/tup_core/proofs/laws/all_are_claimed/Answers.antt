use Rattle.tup_core.proofs.AllClaimed as lemma
use Rattle.tup_core.proofs.laws.all_are_claimed.Goals as goal

pub returns : goal.returns
returns c = λ next known kept tree plan files events planned run honest quiet at rule here reached good.
    lemma.all_claimed next known kept tree plan files events planned run honest quiet at rule here reached good
