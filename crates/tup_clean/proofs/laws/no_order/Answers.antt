use Rattle.tup_clean.proofs.OneBuild as lemma
use Rattle.tup_clean.proofs.laws.no_order.Goals as goal

pub returns : goal.returns
returns c = λ next rules sources apart. lemma.clean_whole next rules sources apart
