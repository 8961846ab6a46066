use Rattle.tup_stale.specs.Unmade.{unmade}
use Rattle.tup_law_board.proofs.Seen.{cleared_seen}
use Rattle.tup_law_board.proofs.clearing.cleared_are_unseen.Goals as goal

pub returns : goal.returns
returns c = λ graph tree path sees. cleared_seen graph tree (unmade graph) path (sees path)
