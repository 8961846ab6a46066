use Rattle.tup_clean.proofs.Turns.{clean_takes_in_turn}
use Rattle.tup_clean.proofs.laws.in_turn.Goals as goal

pub returns : goal.returns
returns c = λ next rules sources. clean_takes_in_turn next rules sources
