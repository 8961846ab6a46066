use Rattle.std.proofs.Common.{subst, Ok}
use Rattle.tup_proc.specs.Reading.{ReadsNumber, ReadsText}
use Rattle.tup_proc.proofs.Unread.{wrote_uncut, wrote_digits, wrote_name}
use Rattle.tup_proc.proofs.fields.wrote.Goals as goal

pub returns-in_default : goal.returns-in_default
returns-in_default c = wrote_uncut c.args.said.now c.in_default.ensures

pub returns-in_default-2 : goal.returns-in_default-2
returns-in_default-2 c =
    wrote_digits c.args.said.now c.in-Some.digits.now c.in-Some.name.now c.in-Some.ensures (subst (λ o. ReadsNumber c.in-Some.digits.now (Ok o)) c.in_default-2.is c.in_ok-file.ensures)

pub returns-in_default-3 : goal.returns-in_default-3
returns-in_default-3 c =
    wrote_name c.args.said.now c.in-Some.digits.now c.in-Some.name.now c.in-Some.ensures (subst (λ o. ReadsText c.in-Some.name.now (Ok o)) c.in_default-3.is c.in_ok-text.ensures)
