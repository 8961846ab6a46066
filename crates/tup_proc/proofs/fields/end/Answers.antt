use Rattle.std.proofs.Common.{subst, Ok}
use Rattle.tup_proc.specs.Reading.{ReadsNumber}
use Rattle.tup_proc.proofs.Numbers.{too_large}
use Rattle.tup_proc.proofs.Unread.{no_end}
use Rattle.tup_proc.proofs.fields.end.Goals as goal

pub returns-in_default-try_from : goal.returns-in_default-try_from
returns-in_default-try_from c =
    let read = subst (λ o. ReadsNumber c.args.said.now (Ok o)) c.in-Some.is c.in_ok-status.ensures in
    no_end c.args.said.now (too_large c.args.said.now c.in-Some.status read.0 read.1 c.in_default-try_from.ensures)
