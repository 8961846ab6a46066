use Rattle.std.proofs.Common.{inr}
use Rattle.std.proofs.lemmas.Result.{on_ok_weaker}
use Rattle.tup_scan_diff.proofs.made.Made.give_many.Goals as goal

pub returns-clause-given : goal.returns-clause-given
returns-clause-given c = on_ok_weaker c.give.result (λ given. inr given) c.give.ensures.given
