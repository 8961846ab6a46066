use Rattle.tup_lex.proofs.Trims.{blank_from_nowhere, Ends-from_searches}
use Rattle.tup_lex.proofs.blank.ends.Goals as goal

pub returns-in_err-first : goal.returns-in_err-first
returns-in_err-first c = let a = c.find_not_byteset.ensures in let b = c.from_residual.ensures in let f = c.in_err-first.ensures in rw b (blank_from_nowhere _ _ _ f)

pub returns : goal.returns
returns c = Ends-from_searches _ _ _ c.in_ok-first.ensures c.in_ok-last.ensures
