use Rattle.std.proofs.Common.{subst, Ok}
use Rattle.tup_proc.specs.Reading.{ReadsText}
use Rattle.tup_proc.proofs.Unread.{read_uncut, read_digits, read_name}
use Rattle.tup_proc.proofs.fields.read.Goals as goal

pub returns-in_default : goal.returns-in_default
returns-in_default c = read_uncut c.args.said.now c.in_default.ensures

pub returns-in_default-stamp : goal.returns-in_default-stamp
returns-in_default-stamp c = read_digits c.args.said.now c.in-Some.digits.now c.in-Some.name.now c.in-Some.ensures c.in_default-stamp.ensures

pub returns-in_default-2 : goal.returns-in_default-2
returns-in_default-2 c =
    read_name c.args.said.now c.in-Some.digits.now c.in-Some.name.now c.in-Some.ensures (subst (λ o. ReadsText c.in-Some.name.now (Ok o)) c.in_default-2.is c.in_ok-text.ensures)
