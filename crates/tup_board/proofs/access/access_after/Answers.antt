use Rattle.std.proofs.Common.{[]}
use Rattle.tup_core.proofs.AskLaws.{none_made}
use Rattle.tup_board.proofs.access.access_after.Goals as goal

pub returns : goal.returns
returns c = c.allowed.ensures [] (none_made c.new-none.result c.new-none.ensures.empty) (c.few-few.ensures c.args.rule.now)
