use Rattle.tup_core.proofs.Verdicts as lemma
use Rattle.tup_core.proofs.laws.ends_are_verdicts.Goals as goal

pub returns : goal.returns
returns c = λ next known is_known plan files events one run seat running rule given writes tree runs fits honest is_tree.
    lemma.ends_are_verdicts next known is_known plan files events one run seat running rule given writes tree runs fits honest is_tree
