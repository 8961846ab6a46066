use Rattle.std.proofs.Common.{sym, ◌∙◌}
use Rattle.tup_proc.proofs.Marks.{cut_slice, uncut_is}
use Rattle.tup_proc.proofs.cut.cut.Goals as goal

pub returns-in_default : goal.returns-in_default
returns-in_default c = uncut_is c.args.mark c.args.bytes.now (sym c.find.ensures ∙ c.in_default.is)

pub returns : goal.returns
returns c = cut_slice c.args.mark c.args.bytes.now c.in-Some.end (sym c.find.ensures ∙ c.in-Some.is)
