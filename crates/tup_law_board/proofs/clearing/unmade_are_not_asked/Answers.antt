use Rattle.tup_law_board.proofs.Unasked.{not_asked}
use Rattle.tup_law_board.proofs.clearing.unmade_are_not_asked.Goals as goal

pub returns : goal.returns
returns c = λ next language known graph sources number rule run path given kept come sees. not_asked next language known graph sources kept come sees number rule run path given
