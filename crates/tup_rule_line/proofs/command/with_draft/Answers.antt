use Rattle.tup_rule_line.proofs.command.with_draft.Goals as goal

pub returns : goal.returns
returns c = rw (c.in_ok-give.ensures, c.as_slice.ensures) at c.with_made.ensures
