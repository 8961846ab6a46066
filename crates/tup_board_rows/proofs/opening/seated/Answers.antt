use Rattle.std.proofs.lemmas.Bool.{false≢true}
use Rattle.tup_board_rows.proofs.opening.seated.Goals as goal

pub planned-requires : goal.planned-requires
planned-requires c = record { fresh = c.requires; stands = λ tells. absurd (false≢true tells); seen = λ tells. absurd (false≢true tells) }
